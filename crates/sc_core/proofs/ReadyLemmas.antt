-- The ready session that was started first.
use Rattle.std.proofs.Common.{◌≡◌, ℕ, ◌+◌, suc, Bool, true, false, cond, Option, Some, None, List, [], ◌∷◌, find, map, nat_le, option_map, slice_get, refl, sym, ap, subst, ◌∙◌, arith}
use Rattle.std.proofs.lemmas.Bool.Decides.{nat_tests}
use Rattle.std.proofs.lemmas.Option.{slice_get-map}
use Rattle.sc_types.specs.declared.host.HostImage.{HostImage}
use Rattle.sc_types.specs.declared.host.SessionImage.{SessionImage}
use Rattle.sc_core.specs.Bodies.{cued, session_image}
use Rattle.sc_machine.specs.Cues.{is_ready, ready}
use Rattle.sc_core.specs.declared.session.Session.{Session}

-- the first place of a session with a cue, counted from k, is that of the first ready session
abbrev IsFirst : ℕ → List SessionImage → Option ℕ → Type 0
IsFirst k ss None = find is_ready ss ≡ None
IsFirst k ss (Some p) = (i : ℕ) × (p ≡ k + i) × (slice_get ss i ≡ find is_ready ss)

abbrev first_of : List ℕ → Option ℕ
first_of ps = find (λ p. nat_le 0 p) ps

any_place : (p : ℕ) (ps : List ℕ) → first_of (p ∷ ps) ≡ Some p
any_place p ps = let always : nat_le 0 p ≡ true = grind (arith, nat_tests) in ap (λ b. cond b (Some p) (first_of ps)) always

later : (k : ℕ) (s : SessionImage) (ss : List SessionImage) → is_ready s ≡ false → (o : Option ℕ) → IsFirst (k + 1) ss o
    → IsFirst k (s ∷ ss) o
later k s ss idle None h = ap (λ b. cond b (Some s) (find is_ready ss)) idle ∙ h
later k s ss idle (Some p) h =
    let at = h.1 in
    (suc h.0, omega (arith, at), h.2 ∙ sym (ap (λ b. cond b (Some s) (find is_ready ss)) idle))

first_place : (k : ℕ) (ss : List SessionImage) → IsFirst k ss (first_of (cued k ss))
first_place k [] = refl
first_place k (s ∷ ss) = by (is_ready s) refl (first_place (k + 1) ss)
  where
    by : (b : Bool) → is_ready s ≡ b → IsFirst (k + 1) ss (first_of (cued (k + 1) ss))
        → IsFirst k (s ∷ ss) (first_of (cond b (k ∷ cued (k + 1) ss) (cued (k + 1) ss)))
    by true cues rest =
        subst (IsFirst k (s ∷ ss)) (sym (any_place k (cued (k + 1) ss)))
        (0, omega arith, sym (ap (λ b. cond b (Some s) (find is_ready ss)) cues))
    by false idle rest = later k s ss idle (first_of (cued (k + 1) ss)) rest

abbrev name_of : SessionImage → List ℕ
name_of s = s.state.session

-- none is ready where no place has a cue
pub none_ready : (g : HostImage) → None ≡ first_of (cued 0 g.sessions) → None ≡ ready g
none_ready g none = sym (ap (λ o. option_map name_of o) (subst (IsFirst 0 g.sessions) (sym none) (first_place 0 g.sessions)))

-- the name at the first place with a cue is that of the ready session which was started first
pub some_ready : (g : HostImage) (p : ℕ) → Some p ≡ first_of (cued 0 g.sessions)
    → slice_get (map name_of g.sessions) p ≡ ready g
some_ready g p some =
    let first : IsFirst 0 g.sessions (Some p) = subst (IsFirst 0 g.sessions) (sym some) (first_place 0 g.sessions) in
    let at : p ≡ first.0 = omega (arith, first.1) in
    slice_get-map name_of g.sessions p ∙ ap (λ i. option_map name_of (slice_get g.sessions i)) at
    ∙ ap (λ o. option_map name_of o) first.2

-- the names of the sessions
pub session_names : (items : List Session) → map (λ (s : Session). s.state.session) items ≡ map name_of (map session_image items)
session_names [] = refl
session_names (s ∷ ss) = ap (λ ns. s.state.session ∷ ns) (session_names ss)
