-- What going downward enters, by the kind of a state.
use Rattle.std.proofs.Common.{◌≡◌, ℕ, suc, true, false, cond, Option, Some, Result, Ok, Err, OnOk, refl, ap, sym, ◌∙◌}
use Rattle.std.specs.Option.{option_map_or}
use Rattle.sc_base.specs.Ascending.{with_number}
use Rattle.sc_bits.specs.Rows.{RowOf}
use Rattle.sc_types.specs.declared.chart.Chart.{Chart}
use Rattle.sc_types.specs.declared.state_kind.StateKind.{StateKind}
use Rattle.sc_types.specs.declared.state_kind.StateKind.TheVariants as kind
use Rattle.sc_law.specs.Entry.{EntryTriple, added, by_default, down, recall, regions, settle_in}
use Rattle.sc_law.specs.Kinds.{is_history, is_history_kind, is_kind, kind_of}
use Rattle.sc_law.specs.Sets.{Histories, value_of_history}
use Rattle.sc_sets.specs.Triples.{Becomes, triple_of}
use Rattle.sc_sets.specs.declared.entry.Entry3.{Entry3}

module _ (c : Chart) (h : Histories) (bound : ℕ) where
  pub down_none : (m s : ℕ) (e : EntryTriple) → m ≡ 0 → e ≡ down c h bound m s e
  unfolding down
  down_none m s e l = ap (λ k. down c h bound k s e) (sym l)

  once : (n m s : ℕ) (e : EntryTriple) → m ≡ suc n
      → down c h bound m s e ≡ cond (is_history c s) (recall c bound (down c h bound n) s (value_of_history h s)) (settle_in c (down c h bound n) s) e
  unfolding down
  once n m s e l = ap (λ k. down c h bound k s e) l

  pub down_history : (n m s : ℕ) (e : EntryTriple) (k : StateKind) → m ≡ suc n → Some k ≡ kind_of c s → is_history_kind k ≡ true
      → recall c bound (down c h bound n) s (value_of_history h s) e ≡ down c h bound m s e
  down_history n m s e k l i j =
      let is : is_history c s ≡ true = ap (λ o. option_map_or is_history_kind o false) (sym i) ∙ j in
      sym (once n m s e l ∙ ap (λ v. cond v (recall c bound (down c h bound n) s (value_of_history h s)) (settle_in c (down c h bound n) s) e) is)

  settled : (n m s : ℕ) (e : EntryTriple) (k : StateKind) → m ≡ suc n → Some k ≡ kind_of c s → is_history_kind k ≡ false
      → down c h bound m s e
      ≡ cond (is_kind kind.Compound k) (by_default c (down c h bound n) s) (cond (is_kind kind.Parallel k) (regions c (down c h bound n) s) (λ same. same)) (added s e)
  settled n m s e k l i j =
      let other : is_history c s ≡ false = ap (λ o. option_map_or is_history_kind o false) (sym i) ∙ j in
      once n m s e l ∙ ap (λ v. cond v (recall c bound (down c h bound n) s (value_of_history h s)) (settle_in c (down c h bound n) s) e) other
      ∙ ap (λ (o : Option StateKind). cond (option_map_or (is_kind kind.Compound) o false) (by_default c (down c h bound n) s)
      (cond (option_map_or (is_kind kind.Parallel) o false) (regions c (down c h bound n) s) (λ same. same)) (added s e)) (sym i)

  pub down_compound : (n m s : ℕ) (e : EntryTriple) → m ≡ suc n → Some kind.Compound ≡ kind_of c s
      → by_default c (down c h bound n) s (added s e) ≡ down c h bound m s e
  down_compound n m s e l i = sym (settled n m s e kind.Compound l i refl)

  pub down_parallel : (n m s : ℕ) (e : EntryTriple) → m ≡ suc n → Some kind.Parallel ≡ kind_of c s
      → regions c (down c h bound n) s (added s e) ≡ down c h bound m s e
  down_parallel n m s e l i = sym (settled n m s e kind.Parallel l i refl)

  pub down_atomic : (n m s : ℕ) (e : EntryTriple) → m ≡ suc n → Some kind.Atomic ≡ kind_of c s → added s e ≡ down c h bound m s e
  down_atomic n m s e l i = sym (settled n m s e kind.Atomic l i refl)

  pub down_final : (n m s : ℕ) (e : EntryTriple) → m ≡ suc n → Some kind.Final ≡ kind_of c s → added s e ≡ down c h bound m s e
  down_final n m s e l i = sym (settled n m s e kind.Final l i refl)

-- a state was added to the row
pub added_is : (r : RowOf) (e : Entry3) (s : ℕ) → r ≡ record { width = e.states.width; members = with_number s e.states.members }
    → triple_of (record { states = r; defaults = e.defaults; noted = e.noted }) ≡ added s (triple_of e)
added_is r e s h = ap (λ (q : RowOf). record { states = q.members; defaults = e.defaults.members; noted = e.noted }) h

-- a step that was made is another that gives the same
pub step_ok : {E : Type 0} (r : Result (Unit {0}) E) (width : ℕ) (f g : EntryTriple → EntryTriple) (old mid new : Entry3)
    → OnOk r (Becomes width f mid new) → f (triple_of mid) ≡ g (triple_of old) → OnOk r (Becomes width g old new)
step_ok (Ok u) width f g old mid new h e = record { rows = h.rows; triple = h.triple ∙ e }
step_ok (Err x) width f g old mid new h e = tt
