-- Operators of several levels in one loop, as the reader climbs them: the operands that wait in its list, and the levels
-- that are still open behind the last one, read what the levels read one inside the other.
use Rattle.std.proofs.Common.{◌≡◌, ℕ, zero, suc, ◌+◌, ◌-◌, ◌<◌, ◌≤◌, ◌==◌, ◌&&◌, if◌then◌else◌, Bool, true, false, nat_le, nat_lt, Option, Some, None, List, [], ◌∷◌, ◌++◌, drop, length, option_and_then, refl, sym, ap, ◌∙◌, arith}
use Rattle.std.proofs.lemmas.Bool.{cond-true, cond-false, leb-true, le-leb, and_parts, and_from}
use Rattle.std.proofs.lemmas.Bool.Decides.{nat_tests}
use Rattle.std.proofs.lemmas.Option.{none-some, cond_some}
use Rattle.sc_types.specs.Expressions.{depth, looseness, repeats}
use Rattle.sc_types.specs.declared.expr.Expr.{Expr}
use Rattle.sc_types.specs.declared.expr.Expr.TheVariants.{Two}
use Rattle.sc_types.specs.declared.expr.Op.{Op}
use Rattle.sc_types.specs.declared.token.Token.{Token}
use Rattle.sc_types.specs.declared.token.Token.TheVariants.{Operator}
use Rattle.sc_expr.specs.declared.reader.Waiting.{Waiting}
use Rattle.sc_expr.specs.Descent.{Parse, within, chained_from, operator_between, closest_behind, prefixed, postfix, inside, loose_at}
use Rattle.sc_expr.proofs.LoopLemmas.{two-le-looseness, chained_from_op, chained_from_other}
use Rattle.sc_expr.proofs.LevelLemmas.{loose_prefixed, loose_more, true_is_false, not_some}

and_then_twice : {A B C : Type 0} (f : B → Option C) (g : A → Option B) (o : Option A)
    → option_and_then f (option_and_then g o) ≡ option_and_then (λ x. option_and_then f (g x)) o
and_then_twice f g None = refl
and_then_twice f g (Some x) = refl

and_then_same : {A B : Type 0} (f g : A → Option B) (o : Option A) → ((x : A) → f x ≡ g x) → option_and_then f o ≡ option_and_then g o
and_then_same f g None same = refl
and_then_same f g (Some x) same = same x

-- so many levels from `closest` on, one after the other, behind what was read of the level before them
abbrev pub climb : ℕ → ℕ → ℕ → Expr × List Token → Option (Expr × List Token)
climb room zero closest r = Some r
climb room (suc n) closest r = option_and_then (climb room n (suc closest)) (chained_from (loose_at room (closest - 1)) closest r.0 r.1)

-- the levels from `closest` up to `loosest`
unfoldable pub rising : ℕ → ℕ → ℕ → Expr × List Token → Option (Expr × List Token)
rising room closest loosest r = climb room (suc loosest - closest) closest r

-- what an operator makes of the operand before it and the one behind it, and the levels that go on behind both
abbrev behind : ℕ → ℕ → Expr → Op → Expr × List Token → Option (Expr × List Token)
behind room end a op r =
    option_and_then (λ e. climb room (end - closest_behind op) (closest_behind op) (e, r.1)) (within (Two op a r.0))

-- what an operand that waits makes of the one that was read behind its operator
abbrev pub joined : ℕ → Waiting → Expr × List Token → Option (Expr × List Token)
joined room w r = behind room (suc w.loosest) w.left w.op r

-- what all that wait make of the last operand: the first of them is the outermost
abbrev pub finished : ℕ → List Waiting → Option (Expr × List Token) → Option (Expr × List Token)
finished room [] o = o
finished room (w ∷ ws) o = option_and_then (joined room w) (finished room ws o)

-- levels

climb_zero : (room closest : ℕ) (o : Option (Expr × List Token)) → o ≡ option_and_then (climb room 0 closest) o
climb_zero room closest None = refl
climb_zero room closest (Some r) = refl

-- a level reads what a lower one reads, and climbs from there
climb_more : (room n closest : ℕ) (ts : List Token) → 2 ≤ closest
    → loose_at room (n + (closest - 1)) ts ≡ option_and_then (climb room n closest) (loose_at room (closest - 1) ts)
climb_more room zero closest ts h =
    let level : 0 + (closest - 1) ≡ closest - 1 = omega arith in
    ap (λ m. loose_at room m ts) level ∙ climb_zero room closest (loose_at room (closest - 1) ts)
climb_more room (suc n) closest ts h =
    let next : suc n + (closest - 1) ≡ n + (suc closest - 1) = omega arith in
    let same : suc closest - 1 ≡ closest = omega arith in
    ap (λ m. loose_at room m ts) next
    ∙ climb_more room n (suc closest) ts (omega arith)
    ∙ ap (λ m. option_and_then (climb room n (suc closest)) (loose_at room m ts)) same
    ∙ ap (option_and_then (climb room n (suc closest))) (loose_more room closest ts h)
    ∙ and_then_twice (climb room n (suc closest)) (λ (r : Expr × List Token). chained_from (loose_at room (closest - 1)) closest r.0 r.1)
    (loose_at room (closest - 1) ts)

-- an expression begins with an operand with its prefixes
pub loose_rising : (room loosest : ℕ) (ts : List Token) → 1 ≤ loosest
    → loose_at room loosest ts ≡ option_and_then (rising room 2 loosest) (prefixed (postfix (nat_lt 0 room) (inside room)) ts)
unfolding rising
loose_rising room loosest ts h =
    let levels : loosest ≡ suc loosest - 2 + (2 - 1) = omega arith in
    ap (λ m. loose_at room m ts) levels
    ∙ climb_more room (suc loosest - 2) 2 ts (omega arith)
    ∙ ap (option_and_then (rising room 2 loosest)) (loose_prefixed room 1 ts refl)

-- no operator follows

chain_other : (operand : Parse Expr) (bound : ℕ) (a : Expr) (op : Op) (ts : List Token) → depth a ≤ 256 → looseness op == bound ≡ false
    → chained_from operand bound a (Operator op ∷ ts) ≡ Some (a, Operator op ∷ ts)
chain_other operand bound a op ts shallow other = chained_from_op operand bound a op ts shallow ∙ cond-false (looseness op == bound) _ _ other

climb_stops : (room n closest : ℕ) (a : Expr) (ts : List Token)
    → ((bound : ℕ) → closest ≤ bound → bound < closest + n → chained_from (loose_at room (bound - 1)) bound a ts ≡ Some (a, ts))
    → climb room n closest (a, ts) ≡ Some (a, ts)
climb_stops room zero closest a ts stops = refl
climb_stops room (suc n) closest a ts stops =
    ap (option_and_then (climb room n (suc closest))) (stops closest (omega arith) (omega arith))
    ∙ climb_stops room n (suc closest) a ts (λ bound low high. stops bound (omega arith) (omega arith))

-- no looseness between both is that of this operator
no_level : (op : Op) (closest loosest bound : ℕ) → (nat_le closest (looseness op) && nat_le (looseness op) loosest) ≡ false
    → closest ≤ bound → bound ≤ loosest → looseness op == bound ≡ false
no_level op closest loosest bound outside low high = by (looseness op == bound) refl
  where
    by : (v : Bool) → looseness op == bound ≡ v → v ≡ false
    by false is = refl
    by true is =
        let same : looseness op ≡ bound = grind (arith, nat_tests) in
        absurd (true_is_false (sym (and_from (nat_le closest (looseness op)) (nat_le (looseness op) loosest)
        (le-leb closest (looseness op) (omega (arith, same))) (le-leb (looseness op) loosest (omega (arith, same)))) ∙ outside))

-- where no operator comes that these levels take, they end
pub rising_stops : (room closest loosest : ℕ) (a : Expr) (ts : List Token) → depth a ≤ 256 → operator_between closest loosest ts ≡ None
    → rising room closest loosest (a, ts) ≡ Some (a, ts)
unfolding rising
rising_stops room closest loosest a (Operator op ∷ ts) shallow none =
    let outside = not_some (nat_le closest (looseness op) && nat_le (looseness op) loosest) op none in
    climb_stops room (suc loosest - closest) closest a (Operator op ∷ ts) (λ bound low high.
    chain_other (loose_at room (bound - 1)) bound a op ts shallow (no_level op closest loosest bound outside low (omega arith)))
rising_stops room closest loosest a [] shallow none =
    climb_stops room (suc loosest - closest) closest a [] (λ bound low high. chained_from_other (loose_at room (bound - 1)) bound a [] shallow refl)
rising_stops room closest loosest a (t ∷ ts) shallow none =
    climb_stops room (suc loosest - closest) closest a (t ∷ ts) (λ bound low high. chained_from_other (loose_at room (bound - 1)) bound a (t ∷ ts) shallow refl)

-- an operator follows

-- behind an operator that repeats its level goes on, and behind another the next one does
goes_on : (room n : ℕ) (op : Op) (e : Expr) (ts : List Token)
    → option_and_then (climb room n (suc (looseness op)))
    (if repeats op then chained_from (loose_at room (looseness op - 1)) (looseness op) e ts else Some (e, ts))
    ≡ climb room (looseness op + suc n - closest_behind op) (closest_behind op) (e, ts)
goes_on room n op e ts = by (repeats op)
  where
    level : ℕ
    level = looseness op

    by : (v : Bool)
        → option_and_then (climb room n (suc level)) (if v then chained_from (loose_at room (level - 1)) level e ts else Some (e, ts))
        ≡ climb room (level + suc n - (if v then level else level + 1)) (if v then level else level + 1) (e, ts)
    by true =
        let left : suc n ≡ level + suc n - level = omega arith in
        ap (λ m. climb room m level (e, ts)) left
    by false =
        let left : n ≡ level + suc n - (level + 1) = omega arith in
        let next : suc level ≡ level + 1 = omega arith in
        ap (λ m. climb room m (suc level) (e, ts)) left ∙ ap (λ m. climb room (level + suc n - (level + 1)) m (e, ts)) next

-- at its own level
climb_here : (room n : ℕ) (a : Expr) (op : Op) (ts : List Token) → depth a ≤ 256
    → climb room (suc n) (looseness op) (a, Operator op ∷ ts)
    ≡ option_and_then (behind room (looseness op + suc n) a op) (loose_at room (looseness op - 1) ts)
climb_here room n a op ts shallow =
    let operand = loose_at room (looseness op - 1) in
    let later = climb room n (suc (looseness op)) in
    let here : looseness op == looseness op ≡ true = grind (arith, nat_tests) in
    ap (option_and_then later) (chained_from_op operand (looseness op) a op ts shallow ∙ cond-true (looseness op == looseness op) _ _ here)
    ∙ and_then_twice later _ (operand ts)
    ∙ and_then_same _ _ (operand ts) (λ (r : Expr × List Token).
    and_then_twice later _ (within (Two op a r.0))
    ∙ and_then_same _ _ (within (Two op a r.0)) (λ e. goes_on room n op e r.1))

-- at its own level or a closer one
climb_goes : (room n closest : ℕ) (a : Expr) (op : Op) (ts : List Token) → depth a ≤ 256 → closest ≤ looseness op → looseness op < closest + n
    → climb room n closest (a, Operator op ∷ ts)
    ≡ option_and_then (behind room (closest + n) a op) (loose_at room (looseness op - 1) ts)
climb_goes room zero closest a op ts shallow low high = absurd (omega arith)
climb_goes room (suc n) closest a op ts shallow low high =
    by (looseness op == closest) refl
    (λ closer. climb_goes room n (suc closest) a op ts shallow (omega (arith, closer)) (omega arith))
  where
    by : (v : Bool) → looseness op == closest ≡ v
        → (closest < looseness op → climb room n (suc closest) (a, Operator op ∷ ts)
        ≡ option_and_then (behind room (suc closest + n) a op) (loose_at room (looseness op - 1) ts))
        → climb room (suc n) closest (a, Operator op ∷ ts)
        ≡ option_and_then (behind room (closest + suc n) a op) (loose_at room (looseness op - 1) ts)
    by true is later =
        let same : closest ≡ looseness op = grind (arith, nat_tests) in
        ap (λ m. climb room (suc n) m (a, Operator op ∷ ts)) same
        ∙ climb_here room n a op ts shallow
        ∙ ap (λ m. option_and_then (behind room (m + suc n) a op) (loose_at room (looseness op - 1) ts)) (sym same)
    by false is later =
        let closer : closest < looseness op = grind (arith, nat_tests) in
        let end : suc closest + n ≡ closest + suc n = omega arith in
        ap (option_and_then (climb room n (suc closest))) (chain_other (loose_at room (closest - 1)) closest a op ts shallow is)
        ∙ later closer
        ∙ ap (λ m. option_and_then (behind room m a op) (loose_at room (looseness op - 1) ts)) end

-- an operator that comes next, where these levels take it: its operand is read, and joined with the one before it
rising_goes : (room closest loosest : ℕ) (a : Expr) (op : Op) (ts : List Token) → depth a ≤ 256 → operator_between closest loosest ts ≡ Some op
    → rising room closest loosest (a, ts)
    ≡ option_and_then (behind room (suc loosest) a op) (loose_at room (looseness op - 1) (drop 1 ts))
unfolding rising
rising_goes room closest loosest a op (Operator op' ∷ us) shallow some =
    let test = cond_some (nat_le closest (looseness op') && nat_le (looseness op') loosest) op' op some in
    let both = and_parts (nat_le closest (looseness op')) (nat_le (looseness op') loosest) test.0 in
    let low = leb-true closest (looseness op') both.0 in
    let high = leb-true (looseness op') loosest both.1 in
    let end : closest + (suc loosest - closest) ≡ suc loosest = omega arith in
    climb_goes room (suc loosest - closest) closest a op' us shallow low (omega arith)
    ∙ ap (λ m. option_and_then (behind room m a op') (loose_at room (looseness op' - 1) us)) end
    ∙ ap (λ o. option_and_then (behind room (suc loosest) a o) (loose_at room (looseness o - 1) us)) test.1
rising_goes room closest loosest a op [] shallow some = absurd (none-some op some)
rising_goes room closest loosest a op (t ∷ us) shallow some = absurd (none-some op some)

-- an expression without an operand
pub loose_refused : (room : ℕ) (ts : List Token) → prefixed (postfix (nat_lt 0 room) (inside room)) ts ≡ None → loose_at room 6 ts ≡ None
loose_refused room ts none = loose_rising room 6 ts (omega arith) ∙ ap (option_and_then (rising room 2 6)) none

-- an operator that comes next takes a token
pub between_there : (closest loosest : ℕ) (op : Op) (ts : List Token) → operator_between closest loosest ts ≡ Some op → length (drop 1 ts) < length ts
between_there closest loosest op [] some = absurd (none-some op some)
between_there closest loosest op (t ∷ ts) some = omega arith

-- operands that wait

-- behind nothing they make nothing
finished-none : (room : ℕ) (ws : List Waiting) → finished room ws None ≡ None
finished-none room [] = refl
finished-none room (w ∷ ws) = ap (option_and_then (joined room w)) (finished-none room ws)

-- the last of them is the innermost
finished-push : (room : ℕ) (ws : List Waiting) (w : Waiting) (o : Option (Expr × List Token))
    → finished room (ws ++ w ∷ []) o ≡ finished room ws (option_and_then (joined room w) o)
finished-push room [] w o = refl
finished-push room (v ∷ ws) w o = ap (option_and_then (joined room v)) (finished-push room ws w o)

-- what the loop keeps: what waits, with the last operand and the tokens ahead, makes what all of it is
abbrev pub Climbs : ℕ → List Waiting → ℕ → ℕ → Expr → List Token → Option (Expr × List Token) → Type 0
Climbs room ws closest loosest a ts o = finished room ws (rising room closest loosest (a, ts)) ≡ o

-- what the loop finds is what the descent gives
pub climbs_result : (room closest loosest : ℕ) (ts rest now : List Token) (first a : Expr) (ws : List Waiting) (o : Option (Expr × List Token))
    → prefixed (postfix (nat_lt 0 room) (inside room)) ts ≡ Some (first, rest)
    → Climbs room ws closest loosest a now (rising room 2 6 (first, rest)) → Climbs room ws closest loosest a now o → loose_at room 6 ts ≡ o
climbs_result room closest loosest ts rest now first a ws o begun kept found =
    loose_rising room 6 ts (omega arith) ∙ ap (option_and_then (rising room 2 6)) begun ∙ sym kept ∙ found

-- an operator whose operand is not read
pub climbs_refused : (room closest loosest : ℕ) (ws : List Waiting) (a : Expr) (op : Op) (ts : List Token) → depth a ≤ 256
    → operator_between closest loosest ts ≡ Some op → prefixed (postfix (nat_lt 0 room) (inside room)) (drop 1 ts) ≡ None
    → Climbs room ws closest loosest a ts None
climbs_refused room closest loosest ws a op ts shallow some none =
    let least = two-le-looseness op in
    ap (finished room ws) (rising_goes room closest loosest a op ts shallow some
    ∙ ap (option_and_then (behind room (suc loosest) a op)) (loose_rising room (looseness op - 1) (drop 1 ts) (omega (arith, least))
    ∙ ap (option_and_then (rising room 2 (looseness op - 1))) none))
    ∙ finished-none room ws

-- an operand with an operator behind it waits
pub climbs_push : (room closest loosest : ℕ) (ws all : List Waiting) (a b : Expr) (op : Op) (level : ℕ) (ts rest : List Token) (o : Option (Expr × List Token))
    → depth a ≤ 256 → operator_between closest loosest ts ≡ Some op → level ≡ looseness op
    → all ≡ ws ++ record { left = a; op = op; loosest = loosest } ∷ []
    → prefixed (postfix (nat_lt 0 room) (inside room)) (drop 1 ts) ≡ Some (b, rest)
    → Climbs room ws closest loosest a ts o → Climbs room all 2 (level - 1) b rest o
climbs_push room closest loosest ws all a b op level ts rest o shallow some same push read kept =
    let least = two-le-looseness op in
    ap (λ m. finished room all (rising room 2 (m - 1) (b, rest))) same
    ∙ ap (λ vs. finished room vs (rising room 2 (looseness op - 1) (b, rest))) push
    ∙ finished-push room ws (record { left = a; op = op; loosest = loosest }) (rising room 2 (looseness op - 1) (b, rest))
    ∙ ap (finished room ws) (
    ap (λ o. option_and_then (behind room (suc loosest) a op) (option_and_then (rising room 2 (looseness op - 1)) o)) (sym read)
    ∙ ap (option_and_then (behind room (suc loosest) a op)) (sym (loose_rising room (looseness op - 1) (drop 1 ts) (omega (arith, least))))
    ∙ sym (rising_goes room closest loosest a op ts shallow some))
    ∙ kept

-- with no operator that the open levels take, the last one that waits is joined with the operand
climbs_joined : (room closest loosest : ℕ) (ws all : List Waiting) (w : Waiting) (b : Expr) (ts : List Token)
    → depth b ≤ 256 → operator_between closest loosest ts ≡ None → all ≡ ws ++ w ∷ []
    → finished room all (rising room closest loosest (b, ts)) ≡ finished room ws (joined room w (b, ts))
climbs_joined room closest loosest ws all w b ts shallow none pop =
    ap (λ vs. finished room vs (rising room closest loosest (b, ts))) pop
    ∙ finished-push room ws w (rising room closest loosest (b, ts))
    ∙ ap (λ o. finished room ws (option_and_then (joined room w) o)) (rising_stops room closest loosest b ts shallow none)

-- which goes on
pub climbs_pop : (room closest loosest : ℕ) (ws all : List Waiting) (w : Waiting) (b e : Expr) (next : ℕ) (ts : List Token) (o : Option (Expr × List Token))
    → depth b ≤ 256 → operator_between closest loosest ts ≡ None → all ≡ ws ++ w ∷ [] → within (Two w.op w.left b) ≡ Some e
    → next ≡ closest_behind w.op → Climbs room all closest loosest b ts o → Climbs room ws next w.loosest e ts o
unfolding rising
climbs_pop room closest loosest ws all w b e next ts o shallow none pop fits same kept =
    ap (λ m. finished room ws (rising room m w.loosest (e, ts))) same
    ∙ ap (λ x. finished room ws (option_and_then (λ e. rising room (closest_behind w.op) w.loosest (e, ts)) x)) (sym fits)
    ∙ sym (climbs_joined room closest loosest ws all w b ts shallow none pop)
    ∙ kept

-- unless both together are too deep
pub climbs_too_deep : (room closest loosest : ℕ) (ws all : List Waiting) (w : Waiting) (b : Expr) (ts : List Token)
    → depth b ≤ 256 → operator_between closest loosest ts ≡ None → all ≡ ws ++ w ∷ [] → within (Two w.op w.left b) ≡ None
    → Climbs room all closest loosest b ts None
unfolding rising
climbs_too_deep room closest loosest ws all w b ts shallow none pop deep =
    climbs_joined room closest loosest ws all w b ts shallow none pop
    ∙ ap (λ x. finished room ws (option_and_then (λ e. rising room (closest_behind w.op) w.loosest (e, ts)) x)) deep
    ∙ finished-none room ws

-- where nothing waits, the operand is the expression
pub climbs_end : (room closest loosest : ℕ) (ws : List Waiting) (b : Expr) (ts : List Token) → depth b ≤ 256 → operator_between closest loosest ts ≡ None
    → ws ≡ [] → Climbs room ws closest loosest b ts (Some (b, ts))
climbs_end room closest loosest ws b ts shallow none empty =
    ap (λ vs. finished room vs (rising room closest loosest (b, ts))) empty ∙ rising_stops room closest loosest b ts shallow none
