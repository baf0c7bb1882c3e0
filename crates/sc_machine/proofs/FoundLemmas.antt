-- What it means that a session was found by its name.
use Rattle.std.proofs.Common.{◌≡◌, ℕ, Option, Some, None, List, option_map, option_and_then, slice_get, refl, sym, ap, ◌∙◌}
use Rattle.std.proofs.lemmas.List.Quantifiers.{position-Some}
use Rattle.std.proofs.lemmas.Option.{some_pair_parts, get_or_from_slice_get}
use Rattle.std.proofs.lemmas.Slice.Eq.{bytes_eq-Decides}
use Rattle.sc_types.specs.declared.host.HostImage.{HostImage}
use Rattle.sc_types.specs.declared.host.SessionImage.{SessionImage}
use Rattle.sc_machine.specs.Hosts.{is_session_named, session_place, session_named}

-- the place and the session
pub record IsAt (g : HostImage) (name : List ℕ) (place : ℕ) (s : SessionImage) : Type 0 where
  pub placed : session_place g name ≡ Some place
  pub there : slice_get g.sessions place ≡ Some s
  pub named : s.state.session ≡ name

pair_at : (xs : List SessionImage) (p place : ℕ) (s : SessionImage) (o : Option SessionImage) → slice_get xs p ≡ o
    → option_map {U = ℕ × SessionImage} (λ (x : SessionImage). (p, x)) o ≡ Some (place, s) → (p ≡ place) × (slice_get xs p ≡ Some s)
pair_at xs p place s None e h = absurd (cc)
pair_at xs p place s (Some x) e h = let parts = some_pair_parts p place x s h in (parts.0, e ∙ ap (λ (y : SessionImage). Some y) parts.1)

found_at : (xs : List SessionImage) (o : Option ℕ) (place : ℕ) (s : SessionImage)
    → option_and_then {U = ℕ × SessionImage} (λ p. option_map {U = ℕ × SessionImage} (λ (x : SessionImage). (p, x)) (slice_get xs p)) o ≡ Some (place, s) → (o ≡ Some place) × (slice_get xs place ≡ Some s)
found_at xs None place s h = absurd (cc)
found_at xs (Some p) place s h =
    let parts = pair_at xs p place s (slice_get xs p) refl h in
    (ap (λ (q : ℕ). Some q) parts.0, ap (λ (q : ℕ). slice_get xs q) (sym parts.0) ∙ parts.1)

-- a session that is found by its name stands at its place
pub is_at : (g : HostImage) (name : List ℕ) (place : ℕ) (s : SessionImage) → session_named g name ≡ Some (place, s) → IsAt g name place s
is_at g name place s h =
    let parts = found_at g.sessions (session_place g name) place s h in
    let passes = (position-Some (is_session_named name) g.sessions place s parts.0).1 in
    let here = get_or_from_slice_get g.sessions place s s parts.1 in
    record {
      placed = parts.0;
      there = parts.1;
      named = (bytes_eq-Decides s.state.session name).0 (sym (ap (is_session_named name) here) ∙ passes);
    }
