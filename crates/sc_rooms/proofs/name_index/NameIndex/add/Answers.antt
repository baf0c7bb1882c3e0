use Rattle.std.proofs.Common.{◌≡◌, ◌+◌, ◌==◌, [], ◌∷◌, cond, map, length, length-append, arith, ap, ap₂, ◌∙◌}
use Rattle.std.proofs.lemmas.List.{length-map}
use Rattle.sc_rooms.specs.Chains.{end_of, hash_of}
use Rattle.sc_rooms.proofs.ChainLemmas.{indexed-add, new-place_of}
use Rattle.sc_rooms.proofs.name_index.NameIndex.add.Goals as goal

pub returns-clause-index : goal.returns-clause-index
returns-clause-index g c =
    let names = map g.T.HasName.name c.args.items.now in
    let name = c.args.name.now in
    let old = c.args.self.now in
    let index = c.requires.index in
    let hash = c.hash_of-hash.ensures in
    let size = index.chains.chained.size in
    let count : c.len-place.result ≡ length names + 1 =
    omega (arith, c.len-place.ensures, c.push_reserved.ensures.len, size, length-map names hash_of, old.earlier.ok) in
    let more = length-append names (name ∷ []) in
    record {
      chains = rw c.push_reserved.ensures.items (
          indexed-add names old.earlier.items (end_of old.ends) (end_of c.set_end.new.ends) name c.end_of-before.result
          index.chains (new-place_of name names c.requires.new) (c.end_of-before.ensures ∙ ap (end_of old.ends) hash)
          (λ h. c.set_end.ensures.value h ∙ ap₂ (λ x n. cond (h == x) n (end_of old.ends h)) hash count));
      earlier = omega (arith, more, c.requires.room, index.earlier, c.push_reserved.ensures.capacity);
      ends = omega (arith, c.requires.room, index.ends, c.set_end.ensures.room);
    }
