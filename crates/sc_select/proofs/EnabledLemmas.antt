-- What a state chooses from its own transitions, and then from those of its ancestors.
use Rattle.std.proofs.Common.{◌≡◌, ℕ, ◌<◌, Bool, true, false, cond, Option, Some, None, IfSome, is_some, All, List, [], ◌∷◌, ◌++◌, flat_map, length, refl, arith, ap, sym, ◌∙◌}
use Rattle.std.specs.Option.{option_map_or}
use Rattle.sc_types.specs.declared.chart.Chart.{Chart}
use Rattle.sc_law.specs.Outcomes.{holds}
use Rattle.sc_law.specs.Runs.{Running}
use Rattle.sc_law.specs.Selection.{first_enabled, found}
use Rattle.sc_law.specs.Transitions.{condition, is_match, transition_paths, transitions_of}
use Rattle.sc_law.specs.Tree.{ancestors}
use Rattle.sc_tables.proofs.Numbers.{numbers-below}
use Rattle.sc_tables.proofs.Within.{all_below}

-- a state's own transitions are transitions
pub own-within : (c : Chart) (s : ℕ) → All (λ tr. tr < length (transition_paths c)) (transitions_of c s)
own-within c s = all_below (length (transition_paths c)) (transitions_of c s)
    (numbers-below _ 0 (length (transition_paths c)) (transition_paths c) (omega arith))

abbrev Found : Type 0
Found = Option ℕ × Running

-- what is looked at later is asked where nothing was found
abbrev later_of : (Running → Found) → Option ℕ → Running → Found
later_of later None r = later r
later_of later (Some t) r = (Some t, r)

abbrev then_ : (Running → Found) → Found → Found
then_ later p = later_of later p.0 p.1

first-append : (c : Chart) (event : Option (List ℕ)) (xs ys : List ℕ) (r : Running)
    → first_enabled c event (xs ++ ys) r ≡ then_ (first_enabled c event ys) (first_enabled c event xs r)
first-append c event [] ys r = refl
first-append c event (x ∷ xs) ys r = by (is_match c event x) (first-append c event xs ys) where
  chosen : (v : Bool) (q : Running) → first_enabled c event (xs ++ ys) q
      ≡ then_ (first_enabled c event ys) (first_enabled c event xs q)
      → (cond v (found x) (first_enabled c event (xs ++ ys))) q
      ≡ then_ (first_enabled c event ys) ((cond v (found x) (first_enabled c event xs)) q)
  chosen true q so = refl
  chosen false q so = so

  by : (v : Bool) → ((q : Running) → first_enabled c event (xs ++ ys) q
      ≡ then_ (first_enabled c event ys) (first_enabled c event xs q))
      → (cond v (λ q. (cond (holds (condition c x) q).0 (found x) (first_enabled c event (xs ++ ys)))
      (holds (condition c x) q).1) (first_enabled c event (xs ++ ys))) r
      ≡ then_ (first_enabled c event ys) ((cond v
      (λ q. (cond (holds (condition c x) q).0 (found x) (first_enabled c event xs)) (holds (condition c x) q).1)
      (first_enabled c event xs)) r)
  by true so = chosen (holds (condition c x) r).0 (holds (condition c x) r).1 (so (holds (condition c x) r).1)
  by false so = so r

-- nothing was found among a state's own transitions: those of its ancestors are looked at
pub found-later : (c : Chart) (event : Option (List ℕ)) (s : ℕ) (above o : Option ℕ) (r new : Running)
    → is_some o ≡ false
    → first_enabled c event (transitions_of c s) r ≡ (o, new)
    → ancestors c s ≡ option_map_or (λ p. p ∷ ancestors c p) above []
    → first_enabled c event (flat_map (transitions_of c) (option_map_or (λ p. p ∷ ancestors c p) above [])) new
    ≡ first_enabled c event (flat_map (transitions_of c) (s ∷ ancestors c s)) r
found-later c event s above None r new n e a =
    sym (first-append c event (transitions_of c s) (flat_map (transitions_of c) (ancestors c s)) r
    ∙ ap (then_ (first_enabled c event (flat_map (transitions_of c) (ancestors c s)))) e
    ∙ ap (λ ss. first_enabled c event (flat_map (transitions_of c) ss) new) a)
found-later c event s above (Some t) r new n e a = absurd (cc)

-- one was found among them
pub found-own : (c : Chart) (event : Option (List ℕ)) (s : ℕ) (o : Option ℕ) (r new : Running) → is_some o ≡ true
    → first_enabled c event (transitions_of c s) r ≡ (o, new)
    → first_enabled c event (flat_map (transitions_of c) (s ∷ ancestors c s)) r ≡ (o, new)
found-own c event s None r new n e = absurd (cc)
found-own c event s (Some t) r new n e =
    first-append c event (transitions_of c s) (flat_map (transitions_of c) (ancestors c s)) r
    ∙ ap (then_ (first_enabled c event (flat_map (transitions_of c) (ancestors c s)))) e

-- a state below another is below a bound of it
pub below-both : (o : Option ℕ) (s n : ℕ) → IfSome o (λ p. p < s) → s < n → IfSome o (λ p. p < n)
below-both None s n h l = tt
below-both (Some p) s n h l = omega arith

pub some-has : (o : Option ℕ) (s n : ℕ) → o ≡ Some s → IfSome o (λ p. p < n) → s < n
some-has None s n e h = absurd (cc)
some-has (Some p) s n e h = let same : p ≡ s = cc in omega arith
