-- The elements of a chart stand in document order.
use Rattle.std.proofs.Common.{◌≡◌, ℕ, ◌+◌, true, All, List, [], ◌∷◌, ◌++◌, arith}
use Rattle.std.proofs.lemmas.List.Elements.{All-cons, All-nil}
use Rattle.std.proofs.lemmas.List.Kept.{AllPairs-cons}
use Rattle.sc_types.specs.declared.chart.Chart.{Chart}
use Rattle.sc_types.specs.declared.chart.Node.{Node, Node', Row_of-Node, end_of-Node, more_of-Node}
use Rattle.sc_law.specs.Nodes.{Path, elements, elements_from, elements_of_row}
use Rattle.sc_tables.specs.Preorder.{IsPreorder, comes_before}
use Rattle.sc_tables.proofs.Order.{begins, begins-same, under, under-begins, under-before, under-more, under-kid, kids-before}

-- each of these paths leads on from this one, or is the same
abbrev pub AllBegin : Path → List Path → Type 0
AllBegin path [] = Unit {0}
AllBegin path (p ∷ ps) = (begins path p ≡ true) × AllBegin path ps

-- each leads to a child at this place or a later one, or on from there
abbrev pub AllUnder : Path → ℕ → List Path → Type 0
AllUnder path k [] = Unit {0}
AllUnder path k (p ∷ ps) = (under path k p ≡ true) × AllUnder path k ps

abbrev pub ComesBeforeAll : Path → List Path → Type 0
ComesBeforeAll path [] = Unit {0}
ComesBeforeAll path (p ∷ ps) = (comes_before path p ≡ true) × ComesBeforeAll path ps

abbrev pub IsOrdered : List Path → Type 0
IsOrdered [] = Unit {0}
IsOrdered (p ∷ ps) = ComesBeforeAll p ps × IsOrdered ps

under-all : (path : Path) (k : ℕ) (ps : List Path) → AllUnder path k ps → AllBegin path ps
under-all path k [] h = tt
under-all path k (p ∷ ps) h = (under-begins path k p h.0, under-all path k ps h.1)

under-all-before : (path : Path) (k : ℕ) (ps : List Path) → AllUnder path k ps → ComesBeforeAll path ps
under-all-before path k [] h = tt
under-all-before path k (p ∷ ps) h = (under-before path k p h.0, under-all-before path k ps h.1)

kid-all : (path : Path) (k : ℕ) (ps : List Path) → AllBegin (path ++ k ∷ []) ps → AllUnder path k ps
kid-all path k [] h = tt
kid-all path k (p ∷ ps) h = (under-kid path k p h.0, kid-all path k ps h.1)

more-all : (path : Path) (k : ℕ) (ps : List Path) → AllUnder path (k + 1) ps → AllUnder path k ps
more-all path k [] h = tt
more-all path k (p ∷ ps) h = (under-more path k p h.0, more-all path k ps h.1)

under-append : (path : Path) (k : ℕ) (ps qs : List Path) → AllUnder path k ps → AllUnder path k qs → AllUnder path k (ps ++ qs)
under-append path k [] qs h i = i
under-append path k (p ∷ ps) qs h i = (h.0, under-append path k ps qs h.1 i)

before-later : (path : Path) (k : ℕ) (p : Path) (qs : List Path) → begins (path ++ k ∷ []) p ≡ true → AllUnder path (k + 1) qs → ComesBeforeAll p qs
before-later path k p [] h i = tt
before-later path k p (q ∷ qs) h i = (kids-before path k p q h i.0, before-later path k p qs h i.1)

before-append : (p : Path) (ps qs : List Path) → ComesBeforeAll p ps → ComesBeforeAll p qs → ComesBeforeAll p (ps ++ qs)
before-append p [] qs h i = i
before-append p (q ∷ ps) qs h i = (h.0, before-append p ps qs h.1 i)

ordered-append : (path : Path) (k : ℕ) (ps qs : List Path) → AllBegin (path ++ k ∷ []) ps → AllUnder path (k + 1) qs → IsOrdered ps → IsOrdered qs → IsOrdered (ps ++ qs)
ordered-append path k [] qs a b h i = i
ordered-append path k (p ∷ ps) qs a b h i =
    (before-append p ps qs h.0 (before-later path k p qs a.0 b), ordered-append path k ps qs a.1 b h.1 i)

mutual
  unfolding elements_from

  tree_begins : (n : Node) (path : Path) → AllBegin path (elements_from n path)
  tree_begins (Node' tag members shape row) path =
      (begins-same path, under-all path 0 (elements_of_row row path 0) (row_under row path 0))

  row_under : {m : _} (row : Row_of-Node m) (path : Path) (k : ℕ) → AllUnder path k (elements_of_row row path k)
  row_under end_of-Node path k = tt
  row_under (more_of-Node n rest) path k =
      under-append path k (elements_from n (path ++ k ∷ [])) (elements_of_row rest path (k + 1))
      (kid-all path k (elements_from n (path ++ k ∷ [])) (tree_begins n (path ++ k ∷ [])))
      (more-all path k (elements_of_row rest path (k + 1)) (row_under rest path (k + 1)))

mutual
  unfolding elements_from

  tree_ordered : (n : Node) (path : Path) → IsOrdered (elements_from n path)
  tree_ordered (Node' tag members shape row) path =
      (under-all-before path 0 (elements_of_row row path 0) (row_under row path 0), row_ordered row path 0)

  row_ordered : {m : _} (row : Row_of-Node m) (path : Path) (k : ℕ) → IsOrdered (elements_of_row row path k)
  row_ordered end_of-Node path k = tt
  row_ordered (more_of-Node n rest) path k =
      ordered-append path k (elements_from n (path ++ k ∷ [])) (elements_of_row rest path (k + 1))
      (tree_begins n (path ++ k ∷ [])) (row_under rest path (k + 1)) (tree_ordered n (path ++ k ∷ [])) (row_ordered rest path (k + 1))

before_all : (p : Path) (ps : List Path) → ComesBeforeAll p ps → All (λ q. comes_before p q ≡ true) ps
before_all p [] h = All-nil (λ (r : Path). comes_before p r ≡ true)
before_all p (q ∷ ps) h = All-cons (λ (r : Path). comes_before p r ≡ true) q ps h.0 (before_all p ps h.1)

in_pairs : (ps : List Path) → IsOrdered ps → IsPreorder ps
in_pairs [] h = record { pairs = λ i j d l m. absurd (omega arith) }
in_pairs (p ∷ ps) h = record { pairs = AllPairs-cons (λ (q r : Path). comes_before q r ≡ true) p ps (before_all p ps h.0) (in_pairs ps h.1).pairs }

-- in document order
pub elements_ordered : (c : Chart) → IsPreorder (elements c)
elements_ordered c = in_pairs (elements c) (tree_ordered c.root [])
