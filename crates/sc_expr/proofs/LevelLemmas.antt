-- Each level of the descent, one step at a time, as the reader takes it.
use Rattle.std.proofs.Common.{◌≡◌, ℕ, zero, suc, ◌+◌, ◌-◌, ◌<◌, ◌≤◌, if◌then◌else◌, Bool, true, false, nat_lt, max, Option, Some, None, List, [], ◌∷◌, ◌++◌, append_assoc, map, drop, length, option_map, option_and_then, refl, sym, ap, ◌∙◌, arith}
use Rattle.std.proofs.lemmas.Bool.{cond-true, lt-ltb}
use Rattle.std.proofs.lemmas.List.{length-append}
use Rattle.std.proofs.lemmas.Option.{none-some, same_Some}
use Rattle.sc_types.specs.Expressions.{depth, deepest}
use Rattle.sc_types.specs.declared.expr.Expr.{Expr}
use Rattle.sc_types.specs.declared.expr.Expr.TheVariants.{List as Listed, Item}
use Rattle.sc_types.specs.declared.expr.Op.TheVariants.{Sub}
use Rattle.sc_types.specs.declared.token.Mark.{Mark}
use Rattle.sc_types.specs.declared.token.Mark.TheVariants.{Not as Bang, OpenSquare, CloseSquare, Comma}
use Rattle.sc_types.specs.declared.token.Token.{Token}
use Rattle.sc_types.specs.declared.token.Token.TheVariants.{Operator, Mark as Sign}
use Rattle.sc_expr.specs.declared.sub.Prefix.{Prefix}
use Rattle.sc_expr.specs.declared.sub.Prefix.TheVariants as prefix
use Rattle.sc_expr.specs.Descent.{Parse, within, made, chained_from, indexed_from, prefixed, prefix_at, prefix_of, all_prefixed, is_at, with_rest, after_close_square, loose, loose_at, inside, primary, postfix, items, front, item_end, is_unended, list_of}
use Rattle.sc_expr.proofs.LoopLemmas.{at_square, indexed_from_square, indexed_from_other}

-- levels

-- at looseness 1 there are prefixes, and no operators
pub loose_prefixed : (room bound : ℕ) (ts : List Token) → bound ≡ 1
    → loose_at room bound ts ≡ prefixed (postfix (nat_lt 0 room) (inside room)) ts
unfolding loose
loose_prefixed room bound ts e = ap (λ b. loose_at room b ts) e

-- from looseness 2 on, an operand is followed by operators of this looseness
pub loose_more : (room bound : ℕ) (ts : List Token) → 2 ≤ bound
    → loose_at room bound ts ≡ option_and_then (λ (r : Expr × List Token). chained_from (loose_at room (bound - 1)) bound r.0 r.1) (loose_at room (bound - 1) ts)
unfolding loose
loose_more room zero ts h = absurd (omega arith)
loose_more room (suc zero) ts h = absurd (omega arith)
loose_more room (suc (suc k)) ts h =
    let k' : suc k ≡ suc (suc k) - 1 = omega arith in
    ap (λ n. option_and_then {T = Expr × List Token} (λ r. chained_from (loose_at room n) (suc (suc k)) r.0 r.1) (loose_at room n ts)) k'

-- where no more brackets may be opened, nothing is read in them
pub inside_none : (room : ℕ) (ts : List Token) → room ≡ 0 → inside room ts ≡ None
unfolding inside
inside_none room ts e = ap (λ r. inside r ts) e

-- in brackets stands any expression, with one bracket fewer that may be opened
pub inside_more : (room : ℕ) (ts : List Token) → 0 < room → inside room ts ≡ loose_at (room - 1) 6 ts
unfolding inside
inside_more zero ts h = absurd (omega arith)
inside_more (suc room) ts h =
    let room' : room ≡ suc room - 1 = omega arith in
    ap (λ n. loose_at n 6 ts) room'

-- nothing is read where no token is ahead
pub inside_nothing : (room : ℕ) → inside room [] ≡ None
unfolding inside loose prefixed
inside_nothing zero = refl
inside_nothing (suc room) = refl

pub true_is_false : true ≡ false → ⊥
true_is_false e = cc

max-swap : (a b c : ℕ) → max a (max b c) ≡ max b (max a c)
max-swap a b c = omega arith

-- a test that gives nothing has failed
pub not_some : {A : Type 0} (b : Bool) (x : A) → (if b then Some x else None) ≡ None → b ≡ false
not_some true x e = absurd (none-some x (sym e))
not_some false x e = refl

-- prefixes

-- where no prefix comes, the operand does
pub prefix_stops : (operand : Parse Expr) (ts : List Token) → prefix_at ts ≡ None → prefixed operand ts ≡ operand ts
unfolding prefixed
prefix_stops operand (Sign Bang ∷ ts) none = absurd (none-some prefix.Not (sym none))
prefix_stops operand (Operator Sub ∷ ts) none = absurd (none-some prefix.Minus (sym none))
prefix_stops operand [] none = refl
prefix_stops operand (t ∷ ts) none = refl

prefix_goes : (operand : Parse Expr) (p : Prefix) (ts : List Token) → prefix_at ts ≡ Some p
    → prefixed operand ts ≡ option_and_then (made (prefix_of p)) (prefixed operand (drop 1 ts))
unfolding prefixed
prefix_goes operand p (Sign Bang ∷ us) some = ap (λ q. option_and_then (made (prefix_of q)) (prefixed operand us)) (same_Some prefix.Not p some)
prefix_goes operand p (Operator Sub ∷ us) some = ap (λ q. option_and_then (made (prefix_of q)) (prefixed operand us)) (same_Some prefix.Minus p some)
prefix_goes operand p [] some = absurd (none-some p some)
prefix_goes operand p (t ∷ us) some = absurd (none-some p some)

all_prefixed-push : (ps : List Prefix) (p : Prefix) (r : Option (Expr × List Token))
    → all_prefixed (ps ++ p ∷ []) r ≡ all_prefixed ps (option_and_then (made (prefix_of p)) r)
all_prefixed-push [] p r = refl
all_prefixed-push (q ∷ ps) p r = ap (option_and_then (made (prefix_of q))) (all_prefixed-push ps p r)

-- prefixes before nothing are nothing
pub all_prefixed-none : (ps : List Prefix) → all_prefixed ps None ≡ None
all_prefixed-none [] = refl
all_prefixed-none (p ∷ ps) = ap (option_and_then (made (prefix_of p))) (all_prefixed-none ps)

-- one prefix more is passed over
pub prefix_step : (operand : Parse Expr) (ps : List Prefix) (p : Prefix) (ts : List Token) → prefix_at ts ≡ Some p
    → all_prefixed (ps ++ p ∷ []) (prefixed operand (drop 1 ts)) ≡ all_prefixed ps (prefixed operand ts)
prefix_step operand ps p ts some =
    all_prefixed-push ps p (prefixed operand (drop 1 ts)) ∙ ap (all_prefixed ps) (sym (prefix_goes operand p ts some))

-- a prefix that comes next takes a token
pub prefix_there : (p : Prefix) (ts : List Token) → prefix_at ts ≡ Some p → length (drop 1 ts) < length ts
prefix_there p [] some = absurd (none-some p some)
prefix_there p (t ∷ ts) some = omega arith

-- the last prefix is the innermost
pub prefix_made : (ps : List Prefix) (p : Prefix) (a e : Expr) (ts : List Token) → within (prefix_of p a) ≡ Some e
    → all_prefixed (ps ++ p ∷ []) (Some (a, ts)) ≡ all_prefixed ps (Some (e, ts))
prefix_made ps p a e ts fits =
    all_prefixed-push ps p (Some (a, ts)) ∙ ap (λ o. all_prefixed ps (option_map (with_rest ts) o)) fits

-- a prefix that makes the expression too deep is refused
pub prefix_too_deep : (ps : List Prefix) (p : Prefix) (a : Expr) (ts : List Token) → within (prefix_of p a) ≡ None
    → all_prefixed (ps ++ p ∷ []) (Some (a, ts)) ≡ None
prefix_too_deep ps p a ts deep =
    all_prefixed-push ps p (Some (a, ts)) ∙ ap (λ o. all_prefixed ps (option_map (with_rest ts) o)) deep ∙ all_prefixed-none ps

-- places in a list

-- where no `[` comes, the expression ends
pub index_stops : (inner : Parse Expr) (a : Expr) (ts : List Token) → depth a ≤ 256 → is_at OpenSquare ts ≡ false
    → indexed_from inner a ts ≡ Some (a, ts)
index_stops inner a (Sign OpenSquare ∷ ts) shallow there = absurd (true_is_false there)
index_stops inner a [] shallow there = indexed_from_other inner a [] shallow refl
index_stops inner a (t ∷ ts) shallow there = indexed_from_other inner a (t ∷ ts) shallow refl

index_goes : (inner : Parse Expr) (a : Expr) (ts : List Token) → depth a ≤ 256 → is_at OpenSquare ts ≡ true
    → indexed_from inner a ts ≡ at_square inner (λ e us. indexed_from inner e us) a (drop 1 ts)
index_goes inner a (Sign OpenSquare ∷ us) shallow there = indexed_from_square inner a us shallow
index_goes inner a [] shallow there = absurd (true_is_false (sym there))
index_goes inner a (t ∷ us) shallow there = absurd (true_is_false (sym there))

-- behind a `[` whose place is not read, nothing is read
pub index_refused : (inner : Parse Expr) (a : Expr) (ts : List Token) → depth a ≤ 256 → is_at OpenSquare ts ≡ true
    → inner (drop 1 ts) ≡ None → indexed_from inner a ts ≡ None
index_refused inner a ts shallow there none = index_goes inner a ts shallow there ∙ ap (option_and_then _) none

-- with the place that was read
index_made : (inner : Parse Expr) (a b : Expr) (ts rest : List Token) → depth a ≤ 256 → is_at OpenSquare ts ≡ true
    → inner (drop 1 ts) ≡ Some (b, rest)
    → indexed_from inner a ts ≡ option_and_then (λ us. option_and_then (λ e. indexed_from inner e us) (within (Item a b))) (after_close_square rest)
index_made inner a b ts rest shallow there read = index_goes inner a ts shallow there ∙ ap (option_and_then _) read

-- a place without its `]` is refused
pub index_unclosed : (inner : Parse Expr) (a b : Expr) (ts rest : List Token) → depth a ≤ 256 → is_at OpenSquare ts ≡ true
    → inner (drop 1 ts) ≡ Some (b, rest) → after_close_square rest ≡ None → indexed_from inner a ts ≡ None
index_unclosed inner a b ts rest shallow there read unclosed = index_made inner a b ts rest shallow there read ∙ ap (option_and_then _) unclosed

-- a place that makes the expression too deep is refused
pub index_too_deep : (inner : Parse Expr) (a b : Expr) (ts rest us : List Token) → depth a ≤ 256 → is_at OpenSquare ts ≡ true
    → inner (drop 1 ts) ≡ Some (b, rest) → after_close_square rest ≡ Some us → within (Item a b) ≡ None → indexed_from inner a ts ≡ None
index_too_deep inner a b ts rest us shallow there read shut deep =
    index_made inner a b ts rest shallow there read ∙ ap (option_and_then _) shut ∙ ap (option_and_then _) deep

-- behind a place and its `]`, more places may follow
pub index_step : (inner : Parse Expr) (a b e : Expr) (ts rest us : List Token) → depth a ≤ 256 → is_at OpenSquare ts ≡ true
    → inner (drop 1 ts) ≡ Some (b, rest) → after_close_square rest ≡ Some us → within (Item a b) ≡ Some e
    → indexed_from inner a ts ≡ indexed_from inner e us
index_step inner a b e ts rest us shallow there read shut fits =
    index_made inner a b ts rest shallow there read ∙ ap (option_and_then _) shut ∙ ap (option_and_then _) fits

-- what the loop over the places finds is what the level gives
pub postfix_result : (has_room : Bool) (inner : Parse Expr) (ts rest now : List Token) (first a : Expr) (o : Option (Expr × List Token))
    → primary has_room inner ts ≡ Some (first, rest) → indexed_from inner a now ≡ indexed_from inner first rest
    → indexed_from inner a now ≡ o → postfix has_room inner ts ≡ o
postfix_result has_room inner ts rest now first a o begun kept found = ap (option_and_then _) begun ∙ sym kept ∙ found

-- a mark that comes next takes a token
pub mark_there : (m : Mark) (ts : List Token) → is_at m ts ≡ true → length (drop 1 ts) < length ts
mark_there m [] there = absurd (true_is_false (sym there))
mark_there m (t ∷ ts) there = omega arith

-- items

-- the items that were read, before those that follow
abbrev pub in_front : List Expr → Option (List Expr × List Token) → Option (List Expr × List Token)
in_front es r = option_map (λ (r : List Expr × List Token). (es ++ r.0, r.1)) r

-- no items in front change nothing
pub in_front-none : (r : Option (List Expr × List Token)) → in_front [] r ≡ r
in_front-none None = refl
in_front-none (Some r) = refl

in_front-push : (es : List Expr) (e : Expr) (r : Option (List Expr × List Token)) → in_front es (front e r) ≡ in_front (es ++ e ∷ []) r
in_front-push es e None = refl
in_front-push es e (Some r) = ap (λ items. Some (items, r.1)) (sym (append_assoc es (e ∷ []) r.0))

-- the deepest of the items and one more is the deeper of both
pub deepest-push : (es : List Expr) (e : Expr) → deepest (map depth (es ++ e ∷ [])) ≡ max (depth e) (deepest (map depth es))
deepest-push [] e = refl
deepest-push (x ∷ es) e = ap (max (depth x)) (deepest-push es e) ∙ max-swap (depth x) (depth e) (deepest (map depth es))

-- an item is read of some token
inside_there : (room : ℕ) (ts : List Token) (r : Expr × List Token) → inside room ts ≡ Some r → 0 < length ts
inside_there room [] r read = absurd (none-some r (sym (inside_nothing room) ∙ read))
inside_there room (t ∷ ts) r read = omega arith

items_goes : (inner : Parse Expr) (n : ℕ) (ts : List Token) → 0 < n
    → items inner n ts ≡ option_and_then (λ (r : Expr × List Token). item_end (items inner (n - 1)) r.0 r.1) (inner ts)
unfolding items
items_goes inner zero ts h = absurd (omega arith)
items_goes inner (suc n) ts h =
    let n' : n ≡ suc n - 1 = omega arith in
    ap (λ m. option_and_then {T = Expr × List Token} (λ r. item_end (items inner m) r.0 r.1) (inner ts)) n'

items_refused : (inner : Parse Expr) (n : ℕ) (ts : List Token) → inner ts ≡ None → items inner n ts ≡ None
unfolding items
items_refused inner zero ts none = refl
items_refused inner (suc n) ts none = ap (option_and_then _) none

unended : (later : Parse (List Expr)) (e : Expr) (ts : List Token) → is_unended ts ≡ true → item_end later e ts ≡ None
unended later e (Sign Comma ∷ ts) there = absurd (true_is_false (sym there))
unended later e (Sign CloseSquare ∷ ts) there = absurd (true_is_false (sym there))
unended later e [] there = refl
unended later e (t ∷ ts) there = refl

items_unended : (inner : Parse Expr) (n : ℕ) (ts us : List Token) (e : Expr) → inner ts ≡ Some (e, us) → is_unended us ≡ true
    → items inner n ts ≡ None
unfolding items
items_unended inner zero ts us e read free = refl
items_unended inner (suc n) ts us e read free = ap (option_and_then _) read ∙ unended (items inner n) e us free

-- the list, of its first items and those that are still to be read
abbrev listed : Option (List Expr × List Token) → Option (Expr × List Token)
listed r = option_and_then (λ (r : List Expr × List Token). option_map (with_rest r.1) (within (Listed r.0))) r

list_begins : (room : ℕ) (ts : List Token) → 0 < room → is_at CloseSquare ts ≡ false
    → list_of (nat_lt 0 room) (inside room) ts ≡ listed (items (inside room) (length ts) ts)
list_begins room (Sign CloseSquare ∷ ts) free first = absurd (true_is_false first)
list_begins room [] free first = cond-true (nat_lt 0 room) _ _ (lt-ltb 0 room free)
list_begins room (t ∷ ts) free first = cond-true (nat_lt 0 room) _ _ (lt-ltb 0 room free)

-- what the loop keeps: the items that were read, and those ahead, are all that follow the bracket
abbrev pub Keeps : ℕ → List Token → List Expr → List Token → Type 0
Keeps room start es ts =
    (in_front es (items (inside room) (length start - length es) ts) ≡ items (inside room) (length start) start)
    × (length ts + length es ≤ length start)

-- a list with an item that is not read is refused
pub list_refused : (room : ℕ) (start ts : List Token) (es : List Expr) → 0 < room → is_at CloseSquare start ≡ false
    → Keeps room start es ts → inside room ts ≡ None → list_of (nat_lt 0 room) (inside room) start ≡ None
list_refused room start ts es free first kept none =
    list_begins room start free first ∙ ap listed (sym kept.0 ∙ ap (in_front es) (items_refused (inside room) _ ts none))

-- a list with neither a comma nor a `]` behind an item is refused
pub list_unended : (room : ℕ) (start ts us : List Token) (es : List Expr) (e : Expr) → 0 < room → is_at CloseSquare start ≡ false
    → Keeps room start es ts → inside room ts ≡ Some (e, us) → is_unended us ≡ true → list_of (nat_lt 0 room) (inside room) start ≡ None
list_unended room start ts us es e free first kept read bare =
    list_begins room start free first ∙ ap listed (sym kept.0 ∙ ap (in_front es) (items_unended (inside room) _ ts us e read bare))

list_ends : (room : ℕ) (start ts us rest : List Token) (es all : List Expr) (e : Expr) → 0 < room → is_at CloseSquare start ≡ false
    → Keeps room start es ts → inside room ts ≡ Some (e, us) → us ≡ Sign CloseSquare ∷ rest → all ≡ es ++ e ∷ []
    → list_of (nat_lt 0 room) (inside room) start ≡ option_map (with_rest rest) (within (Listed all))
list_ends room start ts us rest es all e free first kept read close push =
    let there = inside_there room ts (e, us) read in
    list_begins room start free first
    ∙ ap listed (sym kept.0 ∙ ap (in_front es) (items_goes (inside room) (length start - length es) ts (omega (arith, kept.1))
    ∙ ap (option_and_then _) read ∙ ap (item_end _ e) close))
    ∙ ap (λ es. option_map (with_rest rest) (within (Listed es))) (sym push)

-- a list whose last item is followed by `]` is read
pub list_made : (room : ℕ) (start ts us rest : List Token) (es all : List Expr) (e made : Expr) → 0 < room → is_at CloseSquare start ≡ false
    → Keeps room start es ts → inside room ts ≡ Some (e, us) → us ≡ Sign CloseSquare ∷ rest → all ≡ es ++ e ∷ []
    → within (Listed all) ≡ Some made → list_of (nat_lt 0 room) (inside room) start ≡ Some (made, rest)
list_made room start ts us rest es all e made free first kept read close push fits =
    list_ends room start ts us rest es all e free first kept read close push ∙ ap (option_map (with_rest rest)) fits

-- a list that is too deep is refused
pub list_too_deep : (room : ℕ) (start ts us rest : List Token) (es all : List Expr) (e : Expr) → 0 < room → is_at CloseSquare start ≡ false
    → Keeps room start es ts → inside room ts ≡ Some (e, us) → us ≡ Sign CloseSquare ∷ rest → all ≡ es ++ e ∷ []
    → within (Listed all) ≡ None → list_of (nat_lt 0 room) (inside room) start ≡ None
list_too_deep room start ts us rest es all e free first kept read close push deep =
    list_ends room start ts us rest es all e free first kept read close push ∙ ap (option_map (with_rest rest)) deep

-- one item further
pub list_step : (room : ℕ) (start ts us rest : List Token) (es all : List Expr) (e : Expr)
    → Keeps room start es ts → inside room ts ≡ Some (e, us) → length us ≤ length ts → us ≡ Sign Comma ∷ rest → all ≡ es ++ e ∷ []
    → Keeps room start all rest
list_step room start ts us rest es all e kept read shorter comma push =
    let there = inside_there room ts (e, us) read in
    let longer : length all ≡ length es + 1 = ap length push ∙ length-append es (e ∷ []) in
    let behind : length us ≡ length rest + 1 = ap length comma ∙ omega arith in
    let m : ℕ = length start - length es - 1 in
    let count : length start - length all ≡ m = omega (arith, longer) in (
      ap (in_front all) (ap (λ n. items (inside room) n rest) count) ∙ ap (λ es. in_front es (items (inside room) m rest)) push
          ∙ sym (in_front-push es e _)
          ∙ ap (in_front es) (sym (items_goes (inside room) (length start - length es) ts (omega (arith, kept.1)) ∙ ap (option_and_then _) read ∙ ap (item_end _ e) comma))
          ∙ kept.0,
      omega (arith, kept.1, longer, behind, shorter),
    )
