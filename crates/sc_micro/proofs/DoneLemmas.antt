-- The data of a final state.
use Rattle.std.proofs.Common.{◌≡◌, ℕ, ◌<◌, ◌||◌, suc, Bool, true, false, cond, Option, Some, None, unwrap_or, option_map, List, [], ◌∷◌, ◌++◌, flat_map, filter, find, map, take, slice_get, append-nil, refl, ap, subst, sym, ◌∙◌}
use Rattle.std.specs.List.{list_any}
use Rattle.std.specs.Option.{option_map_or}
use Rattle.sc_types.specs.declared.chart.Chart.{Chart}
use Rattle.sc_types.specs.declared.chart.Node.{Node}
use Rattle.sc_types.specs.declared.chart.Tag.TheVariants as tag
use Rattle.sc_types.specs.declared.event.Data.{Data}
use Rattle.sc_types.specs.declared.event.Data.TheVariants.{Absent}
use Rattle.sc_law.specs.Configurations.{parent_of}
use Rattle.sc_law.specs.Entering.{done_data, done_event, tell_parallel, tell_parent, told_parent}
use Rattle.sc_law.specs.Kinds.{is_final}
use Rattle.sc_law.specs.Legality.{legal_fault}
use Rattle.sc_law.specs.Nodes.{is_tag, kids, tag_of}
use Rattle.sc_law.specs.Runs.{Running, enqueue}
use Rattle.sc_law.specs.Sending.{Child, child_of, children_of, payload_from}
use Rattle.sc_law.specs.Tree.{kids_of, state_count}
use Rattle.sc_micro.specs.Blocks.{done_kids}
use Rattle.sc_micro.proofs.LegalFinals.{IsOnly, final-only}
use Rattle.sc_micro.proofs.RootLemmas.{kids_are}

abbrev is_done : Node → Bool
is_done n = is_tag tag.DoneData (tag_of n)

none-passes : (ns : List Node) → ((k : ℕ) (kid : Node) → slice_get ns k ≡ Some kid → is_done kid ≡ true → ⊥)
    → filter is_done ns ≡ []
none-passes [] h = refl
none-passes (n ∷ ns) h = by (is_done n) refl (none-passes ns (λ k kid e d. h (suc k) kid e d)) where
  by : (v : Bool) → is_done n ≡ v → filter is_done ns ≡ [] → cond v (n ∷ filter is_done ns) (filter is_done ns) ≡ []
  by true e so = absurd (h 0 n refl e)
  by false e so = so

later : (n : Node) (ns : List Node) → IsOnly (n ∷ ns) → is_done n ≡ false → IsOnly ns
later n ns only other k kid e d = ap (λ v. v || list_any is_done (take k ns)) (sym other) ∙ only (suc k) kid e d

none-later : (n : Node) (ns : List Node) → IsOnly (n ∷ ns) → is_done n ≡ true → (k : ℕ) (kid : Node)
    → slice_get ns k ≡ Some kid → is_done kid ≡ true → ⊥
none-later n ns only first k kid e d =
    let false_is : (true || list_any is_done (take k ns))
    ≡ false = ap (λ v. v || list_any is_done (take k ns)) (sym first) ∙ only (suc k) kid e d in
    absurd (cc)

-- what stands in the only donedata
only-kids : (ns : List Node) → IsOnly ns → flat_map children_of (filter is_done ns) ≡ map child_of (done_kids ns)
only-kids [] only = refl
only-kids (n ∷ ns) only = by (is_done n) refl (λ other. only-kids ns (later n ns only other)) where
  by : (v : Bool) → is_done n ≡ v → (is_done n ≡ false
      → flat_map children_of (filter is_done ns) ≡ map child_of (done_kids ns))
      → flat_map children_of (cond v (n ∷ filter is_done ns) (filter is_done ns))
      ≡ map child_of (option_map_or kids (cond v (Some n) (find is_done ns)) [])
  by true e so =
      ap (λ ms. children_of n ++ flat_map children_of ms) (none-passes ns (none-later n ns only e))
      ∙ append-nil (map child_of (kids n))
  by false e so = so e

-- the data that the payload of its donedata gives
pub done-data-is : (c : Chart) (s : ℕ) (r new : Running) (ks : List Node) (found : Option Data) → legal_fault c ≡ None
    → s < state_count c
    → is_final c s ≡ true → ks ≡ done_kids (kids_of c s)
    → payload_from [] (map child_of ks) r ≡ option_map (λ payload. (payload, new)) found
    → done_data c s r ≡ unwrap_or (option_map (λ payload. (payload, new)) found) (Absent, r)
done-data-is c s r new ks found legal l final k e =
    let only : IsOnly (kids_of c s) = subst IsOnly (sym (kids_are c s legal l)) (final-only c s legal l final) in
    ap (λ (cs : List Child). unwrap_or (payload_from [] cs r) (Absent, r))
    (only-kids (kids_of c s) only ∙ ap (map child_of) (sym k))
    ∙ ap (λ (o : Option (Data × Running)). unwrap_or o (Absent, r)) e

-- what a final state tells, step by step
pub told-is : (c : Chart) (s parent : ℕ) (r got queued new : Running) (payload : Data) → parent ≡ parent_of c s
    → done_data c s r ≡ (payload, got) → queued ≡ enqueue (done_event c parent payload) got
    → new ≡ tell_parallel c (parent_of c parent) queued → new ≡ tell_parent c s r
told-is c s parent r got queued new payload p d q n =
    n ∙ ap (tell_parallel c (parent_of c parent)) q ∙ ap (told_parent c parent) (sym d)
    ∙ ap (λ m. told_parent c m (done_data c s r)) p
