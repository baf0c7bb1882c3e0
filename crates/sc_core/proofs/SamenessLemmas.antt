-- What is the same, part by part.
use Rattle.std.proofs.Common.{◌≡◌, ◌+◌, ◌<◌, ℕ, zero, suc, rules, List, [], ◌∷◌, length, take, slice_get, add-one, arith, sym, ◌∙◌}
use Rattle.std.proofs.lemmas.Option.{same_Some}
use Rattle.sc_types.specs.declared.chart.Node.{Node, out-Node, roll-Node, the_lemmas}

-- one item more is the same

one_more : {X : Type 0} (xs ys : List X) (i : ℕ) → i < length xs → i < length ys → take i xs ≡ take i ys
    → slice_get xs i ≡ slice_get ys i → take (suc i) xs ≡ take (suc i) ys
one_more [] ys i here there few one = absurd (omega (arith, here))
one_more (x ∷ xs) [] i here there few one = absurd (omega (arith, there))
one_more (x ∷ xs) (y ∷ ys) zero here there few one = let same = same_Some x y one in λ k. same k ∷ []
one_more (x ∷ xs) (y ∷ ys) (suc i) here there few one =
    let first : x ≡ y = cc in
    let rest : take i xs ≡ take i ys = cc in
    let more = one_more xs ys i (omega (arith, here)) (omega (arith, there)) rest one in
    λ k. first k ∷ more k

pub take_more_got : {X : Type 0} (xs ys : List X) (i : ℕ) → i < length xs → i < length ys → take i xs ≡ take i ys
    → slice_get xs i ≡ slice_get ys i → take (i + 1) xs ≡ take (i + 1) ys
take_more_got xs ys i here there few one = rw add-one (one_more xs ys i here there few one)

-- an element is what it is made of
pub made_again : (n : Node) → roll-Node (out-Node n) ≡ n
made_again n = search (rules, the_lemmas)

pub same_parts : (a b : Node) → (out-Node a).tag ≡ (out-Node b).tag → (out-Node a).members ≡ (out-Node b).members
    → (out-Node a).kids ≡ (out-Node b).kids → a ≡ b
same_parts a b tag members kids =
    sym (made_again a)
    ∙ (λ k. roll-Node (record { tag = tag k; members = members k; kids = kids k }))
    ∙ made_again b
