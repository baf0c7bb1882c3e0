-- For proofs: how a name is found. The names of one hash form a chain, from the last to the first. A place in it is
-- counted from 1, and 0 is its end.
use Rattle.std.specs.Prelude.{◌≡◌, ◌≢◌, ℕ, ◌+◌, ◌-◌, ◌*◌, ◌^◌, ◌%◌, ◌<◌, ◌≤◌, nat_eq, bit_xor, fold, map, unwrap_or, List, length, slice_index, slice_index_or, vec_capacity, []}
use Rattle.std.specs.HashMap.{HashMap, get}
use Rattle.indexmap.specs.IndexMap.{spare as map_room}
use Rattle.sc_rooms.specs.declared.name_index.NameIndex.{NameIndex}
use Rattle.sc_rooms.specs.Rooms.{AreDistinct}

-- Fowler, Noll and Vo's hash 1a, of 64 bits
unfoldable pub hash_of : List ℕ → ℕ
hash_of bytes = fold (λ hash byte. bit_xor hash byte * 1099511628211 % 2 ^ 64) 14695981039346656037 bytes

-- the end of the chain of a hash
abbrev pub end_of : {S : Type 0} → HashMap ℕ ℕ S → ℕ → ℕ
end_of ends hash = unwrap_or (get nat_eq ends hash) 0

abbrev pub hashes_of : List (List ℕ) → List ℕ
hashes_of names = map hash_of names

-- of the first hashes, as many as `limit`, the last that is `hash` stands right before `at`; none is where `at` is 0
pub record IsLast (hashes : List ℕ) (limit hash at : ℕ) : Type 0 where
  pub within : at ≤ limit
  pub later : (i : ℕ) → at ≤ i → i < limit → slice_index hashes i ≢ hash
  pub own : 0 < at → slice_index hashes (at - 1) ≡ hash

-- each name has the place of the name before it in its chain
pub record IsChained (hashes earlier : List ℕ) : Type 0 where
  pub size : length earlier ≡ length hashes
  pub each : (j : ℕ) → j < length hashes → IsLast hashes j (slice_index hashes j) (slice_index earlier j)

-- this is none of the names
abbrev pub IsNew : List ℕ → List (List ℕ) → Type 0
IsNew name names = (i : ℕ) → i < length names → slice_index_or names i [] ≢ name

-- this is the name at this place
pub record IsPlaceOf (name : List ℕ) (names : List (List ℕ)) (place : ℕ) : Type 0 where
  pub within : place < length names
  pub named : slice_index_or names place [] ≡ name

-- how the names are found; `ends_at` gives the end of the chain of a hash
pub record IsIndexed (names : List (List ℕ)) (earlier : List ℕ) (ends_at : ℕ → ℕ) : Type 0 where
  pub chained : IsChained (hashes_of names) earlier
  pub distinct : AreDistinct names
  pub ends : (hash : ℕ) → IsLast (hashes_of names) (length names) hash (ends_at hash)

-- this is an index of these names, with the room that it says
pub record IsIndex (names : List (List ℕ)) (index : NameIndex) : Type 0 where
  pub chains : IsIndexed names index.earlier.items (end_of index.ends)
  pub earlier : length names + index.spare ≤ vec_capacity index.earlier
  pub ends : index.spare ≤ map_room index.ends

-- there is room for so many more
pub record HasRoom (more count for_names for_items : ℕ) : Type 0 where
  pub names : count + more ≤ for_names
  pub items : count + more ≤ for_items
