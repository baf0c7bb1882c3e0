use Rattle.std.proofs.Common.{◌≡◌, ◌*◌, ◌^◌, ◌%◌, take, fold}
use Rattle.std.specs.Prelude.{bit_xor}
use Rattle.sc_rooms.proofs.name_index.hash_of.Given as goal

abbrev pub invariant-loop-byte : goal.invariant-loop-byte
invariant-loop-byte l =
    l.hash ≡ fold (λ hash byte. bit_xor hash byte * 1099511628211 % 2 ^ 64) 14695981039346656037
    (take l.byte-index l.bytes)
