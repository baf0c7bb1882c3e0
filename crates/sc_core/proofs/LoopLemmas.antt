-- Loops that go through a list by its places, and loops over what a session leaves behind.
use Rattle.std.proofs.Common.{cond, ◌≡◌, ℕ, ◌+◌, ◌++◌, ◌||◌, zero, suc, not, Bool, true, false, Option, Some, None, option_and_then, List, [], ◌∷◌, append-nil, drop, slice_get, refl, arith, sym, ap, ◌∙◌}
use Rattle.std.specs.List.{list_any}
use Rattle.std.proofs.lemmas.List.{drop_all, drop_more}
use Rattle.std.proofs.lemmas.Option.{get_or_from_slice_get, slice_get_within}
use Rattle.sc_types.specs.declared.history.Delivery.{Delivery}
use Rattle.sc_types.specs.declared.history.Delivery.TheVariants.{Flagged}
use Rattle.sc_core.specs.Parting.{cut_changes, cut_told, is_cut_in, left_if, new_left, old_left, put_left}
use Rattle.sc_core.specs.declared.change.Change.{Change}
use Rattle.sc_core.specs.declared.change.Change.TheVariants.{CutOff}
use Rattle.sc_core.specs.declared.draft.Draft.{Draft}
use Rattle.sc_core.specs.declared.draft.Placed.{Placed}
use Rattle.sc_core.specs.declared.session.Session.{Session}

-- what is left from a place on
pub drop_next : {X : Type 0} (xs : List X) (n : ℕ) (x : X) → slice_get xs n ≡ Some x → drop n xs ≡ x ∷ drop (n + 1) xs
drop_next xs n x at =
    drop_more xs n x (slice_get_within xs n x at) ∙ ap (λ y. y ∷ drop (n + 1) xs) (get_or_from_slice_get xs n x x at)

pub drop_none : {X : Type 0} (xs : List X) (n : ℕ) → slice_get xs n ≡ None → drop n xs ≡ []
drop_none [] n at = drop_all n [] (omega arith)
drop_none (x ∷ xs) zero at = absurd cc
drop_none (x ∷ xs) (suc n) at = drop_none xs n at

-- ---- a search

pub any_here : {X : Type 0} (p : X → Bool) (xs : List X) (n : ℕ) (x : X) → slice_get xs n ≡ Some x → p x ≡ true
    → list_any p (drop n xs) ≡ true
any_here p xs n x at is = ap (list_any p) (drop_next xs n x at) ∙ ap (λ b. b || list_any p (drop (n + 1) xs)) is

pub any_next : {X : Type 0} (p : X → Bool) (xs : List X) (n : ℕ) (x : X) → slice_get xs n ≡ Some x → p x ≡ false
    → list_any p (drop n xs) ≡ list_any p (drop (n + 1) xs)
any_next p xs n x at is = ap (list_any p) (drop_next xs n x at) ∙ ap (λ b. b || list_any p (drop (n + 1) xs)) is

pub any_none : {X : Type 0} (p : X → Bool) (xs : List X) (n : ℕ) → slice_get xs n ≡ None → list_any p (drop n xs) ≡ false
any_none p xs n at = ap (list_any p) (drop_none xs n at)

-- ---- the children that the host has

put_more : (o : Option Placed) (left rest : List Placed) → (left ++ put_left o []) ++ rest ≡ left ++ put_left o rest
put_more None [] rest = refl
put_more (Some b) [] rest = refl
put_more o (x ∷ xs) rest = ap (λ all. x ∷ all) (put_more o xs rest)

pub old_next : {P : Type 0} (items : List Session) (cs : List (Change P)) (place : ℕ) (children : List ℕ) (n child : ℕ)
    (left new whole : List Placed) → slice_get children n ≡ Some child
    → new ≡ left ++ put_left (option_and_then (left_if cs place child) (slice_get items child)) []
    → left ++ old_left items cs place (drop n children) ≡ whole → new ++ old_left items cs place (drop (n + 1) children) ≡ whole
old_next items cs place children n child left new whole at made was =
    let rest = old_left items cs place (drop (n + 1) children) in
    ap (λ all. all ++ rest) made ∙ put_more (option_and_then (left_if cs place child) (slice_get items child)) left rest
    ∙ ap (λ all. left ++ old_left items cs place all) (sym (drop_next children n child at)) ∙ was

pub old_last : {P : Type 0} (items : List Session) (cs : List (Change P)) (place : ℕ) (children : List ℕ) (n : ℕ)
    (left whole : List Placed) → slice_get children n ≡ None → left ++ old_left items cs place (drop n children) ≡ whole
    → left ≡ whole
old_last items cs place children n left whole at was =
    sym (append-nil left) ∙ ap (λ all. left ++ old_left items cs place all) (sym (drop_none children n at)) ∙ was

-- ---- those that are born

birth_more : {P : Type 0} (cs : List (Change P)) (b : Placed) (left rest : List Placed)
    → (left ++ new_left cs (b ∷ [])) ++ new_left cs rest ≡ left ++ new_left cs (b ∷ rest)
birth_more cs b [] rest = by (not (is_cut_in cs b.place)) (new_left cs rest)
  where
    by : (v : Bool) (more : List Placed) → cond v (b ∷ []) [] ++ more ≡ cond v (b ∷ more) more
    by true more = refl
    by false more = refl
birth_more cs b (x ∷ xs) rest = ap (λ all. x ∷ all) (birth_more cs b xs rest)

pub new_next : {P : Type 0} (cs : List (Change P)) (births : List Placed) (n : ℕ) (b : Placed) (left new whole : List Placed)
    → slice_get births n ≡ Some b → new ≡ left ++ new_left cs (b ∷ []) → left ++ new_left cs (drop n births) ≡ whole
    → new ++ new_left cs (drop (n + 1) births) ≡ whole
new_next cs births n b left new whole at made was =
    let rest = drop (n + 1) births in
    ap (λ all. all ++ new_left cs rest) made ∙ birth_more cs b left rest
    ∙ ap (λ all. left ++ new_left cs all) (sym (drop_next births n b at)) ∙ was

pub new_last : {P : Type 0} (cs : List (Change P)) (births : List Placed) (n : ℕ) (left whole : List Placed)
    → slice_get births n ≡ None → left ++ new_left cs (drop n births) ≡ whole → left ≡ whole
new_last cs births n left whole at was =
    sym (append-nil left) ∙ ap (λ all. left ++ new_left cs all) (sym (drop_none births n at)) ∙ was

-- ---- they are cut off

-- a draft, with these children cut off
abbrev pub left_drafted : {P : Type 0} → Draft P → List Placed → Draft P
left_drafted d left = record d { changes = d.changes ++ cut_changes left; sent = d.sent ++ cut_told left }

append_one : {X : Type 0} (xs : List X) (y : X) (zs : List X) → (xs ++ y ∷ []) ++ zs ≡ xs ++ y ∷ zs
append_one [] y zs = refl
append_one (x ∷ xs) y zs = ap (λ all. x ∷ all) (append_one xs y zs)

pub left_next : {P : Type 0} (d : Draft P) (cs : List (Change P)) (ss : List Delivery) (child : Placed)
    (items rest : List Placed) → items ≡ child ∷ rest → cs ≡ d.changes ++ CutOff child.place ∷ []
    → ss ≡ d.sent ++ Flagged child.name ∷ []
    → left_drafted (record d { changes = cs; sent = ss }) rest ≡ left_drafted d items
left_next {P = P} d cs ss child items rest is changes sent =
    let put : List (Change P) → List Delivery → Draft P = λ x y. record d { changes = x; sent = y } in
    let made : cs ++ cut_changes rest ≡ d.changes ++ cut_changes items =
    ap (λ all. all ++ cut_changes rest) changes ∙ append_one d.changes (CutOff child.place) (cut_changes rest)
    ∙ ap (λ all. d.changes ++ cut_changes all) (sym is) in
    let told : ss ++ cut_told rest ≡ d.sent ++ cut_told items =
    ap (λ all. all ++ cut_told rest) sent ∙ append_one d.sent (Flagged child.name) (cut_told rest)
    ∙ ap (λ all. d.sent ++ cut_told all) (sym is) in
    ap (λ x. put x (ss ++ cut_told rest)) made ∙ ap (put (d.changes ++ cut_changes items)) told

pub left_last : {P : Type 0} (d whole : Draft P) (items : List Placed) → items ≡ [] → left_drafted d items ≡ whole → d ≡ whole
left_last {P = P} d whole items none was =
    let put : List (Change P) → List Delivery → Draft P = λ x y. record d { changes = x; sent = y } in
    ap (λ x. put x d.sent) (sym (append-nil d.changes)) ∙ ap (put (d.changes ++ [])) (sym (append-nil d.sent))
    ∙ ap (left_drafted d) (sym none) ∙ was
