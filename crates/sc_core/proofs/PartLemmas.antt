-- The children that a session leaves behind as it ends.
use Rattle.std.proofs.Common.{cond, ◌≡◌, ℕ, ◌+◌, ◌<◌, ◌++◌, Bool, true, false, Some, if◌then◌else◌, filter, List, [], ◌∷◌, length, map, slice_get, slice_set, refl, arith, sym, ap, subst, ◌∙◌}
use Rattle.std.specs.Option.{option_map_or}
use Rattle.std.proofs.lemmas.Option.{slice_get_within}
use Rattle.sc_types.specs.declared.history.Delivery.TheVariants.{Flagged}
use Rattle.sc_types.specs.declared.host.HostImage.{HostImage}
use Rattle.sc_types.specs.declared.host.SessionImage.{SessionImage}
use Rattle.sc_core.specs.Changes.{cut_off_at}
use Rattle.sc_machine.specs.Deliveries.{cut_off}
use Rattle.sc_machine.specs.Hosts.{with_session}
use Rattle.sc_core.specs.Installing.{CanApplyAll, HaveTargets, installed}
use Rattle.sc_core.specs.Parting.{cut_changes, cut_told}
use Rattle.sc_core.specs.declared.change.Change.{Change}
use Rattle.sc_core.specs.declared.draft.Placed.{Placed}

-- ---- sessions that pass a test, by their names and places

abbrev pub placed_if : (SessionImage → Bool) → ℕ → SessionImage → List Placed → List Placed
placed_if q from s rest = if q s then record { name = s.state.session; place = from } ∷ rest else rest

abbrev pub placed_where : (SessionImage → Bool) → ℕ → List SessionImage → List Placed
placed_where q from [] = []
placed_where q from (s ∷ ss) = placed_if q from s (placed_where q (from + 1) ss)

-- what they are told
pub told_where : (q : SessionImage → Bool) (from : ℕ) (ss : List SessionImage)
    → cut_told (placed_where q from ss) ≡ map (λ (s : SessionImage). Flagged s.state.session) (filter q ss)
told_where q from [] = refl
told_where q from (s ∷ ss) = by (q s) (told_where q (from + 1) ss)
  where
    by : (b : Bool)
        → cut_told (placed_where q (from + 1) ss) ≡ map (λ (x : SessionImage). Flagged x.state.session) (filter q ss)
        → cut_told (if b then record { name = s.state.session; place = from } ∷ placed_where q (from + 1) ss
        else placed_where q (from + 1) ss)
        ≡ map (λ (x : SessionImage). Flagged x.state.session) (cond b (s ∷ filter q ss) (filter q ss))
    by true rest = ap (λ ds. Flagged s.state.session ∷ ds) rest
    by false rest = rest

-- ---- cutting them off is a map

-- cut off where they pass the test
abbrev pub parted : (SessionImage → Bool) → List SessionImage → List SessionImage
parted q ss = map (λ (s : SessionImage). if q s then cut_off s else s) ss

set_at : {X : Type 0} (front : List X) (x y : X) (rest : List X)
    → slice_set (front ++ x ∷ rest) (length front) y ≡ front ++ y ∷ rest
set_at [] x y rest = refl
set_at (z ∷ zs) x y rest = ap (λ all. z ∷ all) (set_at zs x y rest)

get_at : {X : Type 0} (front : List X) (x : X) (rest : List X) → slice_get (front ++ x ∷ rest) (length front) ≡ Some x
get_at [] x rest = refl
get_at (z ∷ zs) x rest = get_at zs x rest

append_one : {X : Type 0} (xs : List X) (y : X) (zs : List X) → (xs ++ y ∷ []) ++ zs ≡ xs ++ y ∷ zs
append_one [] y zs = refl
append_one (x ∷ xs) y zs = ap (λ all. x ∷ all) (append_one xs y zs)

long_one : {X : Type 0} (xs : List X) (y : X) → length (xs ++ y ∷ []) ≡ length xs + 1
long_one [] y = refl
long_one (x ∷ xs) y = let rest = long_one xs y in omega (arith, rest)

-- the host machine with these sessions
abbrev with_all : HostImage → List SessionImage → HostImage
with_all g ss = record g { sessions = ss }

-- what the changes lead to, and that they can be made
pub record Parts {P : Type 0} (g : HostImage) (changes : List (Change P)) (all : List SessionImage) : Type 0 where
  pub host : installed changes g ≡ with_all g all
  pub can : CanApplyAll g changes

parts_more : (P : Type 0) (q : SessionImage → Bool) (g : HostImage) (front ss : List SessionImage)
    → Parts {P = P} (with_all g (front ++ ss)) (cut_changes (placed_where q (length front) ss)) (front ++ parted q ss)
parts_more P q g front [] = record { host = refl; can = tt }
parts_more P q g front (s ∷ ss) =
    by (q s) (parts_more P q g (front ++ cut_off s ∷ []) ss) (parts_more P q g (front ++ s ∷ []) ss)
  where
    h : HostImage
    h = with_all g (front ++ s ∷ ss)

    next : length front + 1 ≡ length (front ++ cut_off s ∷ [])
    next = sym (long_one front (cut_off s))

    stays : length front + 1 ≡ length (front ++ s ∷ [])
    stays = sym (long_one front s)

    made : cut_off_at h (length front) ≡ with_all g ((front ++ cut_off s ∷ []) ++ ss)
    made =
        ap (λ o. option_map_or (λ (x : SessionImage). with_session h (length front) (cut_off x)) o h) (get_at front s ss)
        ∙ ap (with_all g) (set_at front s (cut_off s) ss ∙ sym (append_one front (cut_off s) ss))

    within : length front < length (front ++ s ∷ ss)
    within = slice_get_within (front ++ s ∷ ss) (length front) s (get_at front s ss)

    by : (b : Bool)
        → Parts {P = P} (with_all g ((front ++ cut_off s ∷ []) ++ ss))
        (cut_changes (placed_where q (length (front ++ cut_off s ∷ [])) ss)) ((front ++ cut_off s ∷ []) ++ parted q ss)
        → Parts {P = P} (with_all g ((front ++ s ∷ []) ++ ss))
        (cut_changes (placed_where q (length (front ++ s ∷ [])) ss)) ((front ++ s ∷ []) ++ parted q ss)
        → Parts {P = P} h
        (cut_changes (if b then record { name = s.state.session; place = length front } ∷ placed_where q (length front + 1) ss
        else placed_where q (length front + 1) ss)) (front ++ (if b then cut_off s else s) ∷ parted q ss)
    by true cut kept =
        let later : List (Change P) = cut_changes (placed_where q (length front + 1) ss) in
        let same : cut_changes {P = P} (placed_where q (length (front ++ cut_off s ∷ [])) ss) ≡ later =
        ap (λ n. cut_changes {P = P} (placed_where q n ss)) (sym next) in
        record {
          host = ap (installed later) made ∙ ap (λ cs. installed cs (with_all g ((front ++ cut_off s ∷ []) ++ ss))) (sym same)
              ∙ cut.host ∙ ap (with_all g) (append_one front (cut_off s) (parted q ss));
          can = (
            within,
            subst (λ k. CanApplyAll k later) (sym made)
                (subst (CanApplyAll (with_all g ((front ++ cut_off s ∷ []) ++ ss))) same cut.can),
          );
        }
    by false cut kept =
        let later : List (Change P) = cut_changes (placed_where q (length front + 1) ss) in
        let same : cut_changes {P = P} (placed_where q (length (front ++ s ∷ [])) ss) ≡ later =
        ap (λ n. cut_changes {P = P} (placed_where q n ss)) (sym stays) in
        let is : with_all g ((front ++ s ∷ []) ++ ss) ≡ h = ap (with_all g) (append_one front s ss) in
        record {
          host = ap (installed later) (sym is) ∙ ap (λ cs. installed cs (with_all g ((front ++ s ∷ []) ++ ss))) (sym same)
              ∙ kept.host ∙ ap (with_all g) (append_one front s (parted q ss));
          can = subst (λ k. CanApplyAll k later) is
              (subst (CanApplyAll (with_all g ((front ++ s ∷ []) ++ ss))) same kept.can);
        }

-- the changes cut off those that pass the test
pub all_parted : (P : Type 0) (q : SessionImage → Bool) (g : HostImage)
    → Parts {P = P} g (cut_changes (placed_where q 0 g.sessions)) (parted q g.sessions)
all_parted P q g = parts_more P q g [] g.sessions

-- they put nothing anywhere, and install no chart

pub cut_targets : (P : Type 0) (n : ℕ) (left : List Placed) → HaveTargets {P = P} n (cut_changes left)
cut_targets P n [] = tt
cut_targets P n (b ∷ bs) = (tt, cut_targets P n bs)
