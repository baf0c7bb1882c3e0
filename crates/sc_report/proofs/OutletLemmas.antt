-- What is put behind what was put.
use Rattle.std.proofs.Common.{◌≡◌, ℕ, ◌+◌, ◌<◌, ◌≤◌, Bool, true, false, Option, Some, None, List, [], ◌∷◌, ◌++◌, get_or, length, map, take, drop, ap, sym, ◌∙◌, refl, subst, append_assoc, append-nil, codes, arith}
use Rattle.std.proofs.Math.Seq.{take-append-add, take-add}
use Rattle.std.proofs.lemmas.List.{take-append-le, length-append, map-append, take_all, take_more}
use Rattle.std.proofs.lemmas.Grind.{flat_map-append}
use Rattle.std.specs.List.{flat_map}
use Rattle.std.specs.Io.KnownBytes.{Appends}
use Rattle.sc_types.specs.Values.{joined as listed, value_text}
use Rattle.sc_types.specs.declared.value.Value.{Value}
use Rattle.sc_types.specs.declared.value.Value.TheVariants.{List as Listed}
use Rattle.sc_expr.specs.Literals.{comma}
use Rattle.sc_expr.proofs.LiteralLemmas.{list-text, next_text}
use Rattle.sc_dev.specs.Causes.{Rose}
use Rattle.sc_dev.specs.Transfer.{AppendsPart}
use Rattle.sc_report.specs.Outlets.{HasPut, Lost, Part, Puts, Seen, joined, joined_to}

pub appends_then : (a b c : Option (List ℕ)) (s t : List ℕ) → Appends a b s → Appends b c t → Appends a c (s ++ t)
appends_then None b c s t h g = tt
appends_then (Some xs) None c s t h g = absurd h
appends_then (Some xs) (Some ys) None s t h g = absurd g
appends_then (Some xs) (Some ys) (Some zs) s t h g = g ∙ ap (λ all. all ++ t) h ∙ append_assoc xs s t

-- A first part of a text is one of a longer text.
pub part_of_more : (a b : Option (List ℕ)) (s t : List ℕ) → AppendsPart a b s → AppendsPart a b (s ++ t)
part_of_more a b s t h = record {
  count = h.count;
  part = omega (arith, h.part, length-append s t);
  taken = subst (Appends a b) (sym (take-append-le h.count s t (omega (arith, h.part)))) h.taken;
}

part_behind : (a b c : Option (List ℕ)) (s t : List ℕ) → Appends a b s → AppendsPart b c t → AppendsPart a c (s ++ t)
part_behind a b c s t h g = record {
  count = length s + g.count;
  part = omega (arith, g.part, length-append s t);
  taken = subst (Appends a c) (sym (take-append-add s t g.count)) (appends_then a b c s (take g.count t) h g.taken);
}

risen_more : (a b c : ℕ) → a ≤ b → Rose b c → Rose a c
risen_more a b c less h = omega (arith, less, h)

pub puts_then : {p q r : Seen} {s t : List ℕ} → Puts p q s → Puts q r t → Puts p r (s ++ t)
puts_then {p} {q} {r} {s} {t} h g = record {
  same = g.same ∙ h.same;
  puts = λ start before there. subst (λ text. HasPut start text r) (append_assoc before s t) (g.puts start (before ++ s) (h.puts start before there));
}

part_handed : (failed gone : Bool) (start old : Seen) (before : List ℕ) (taken : Option (List ℕ)) (faults : ℕ)
    → (failed ≡ true → (gone ≡ true) × (taken ≡ old.taken) × (faults ≡ old.faults))
    → (failed ≡ false → gone ≡ false → Appends old.taken taken old.waiting)
    → (failed ≡ false → gone ≡ true → AppendsPart old.taken taken old.waiting)
    → (failed ≡ false → gone ≡ true → Rose old.faults faults)
    → start.faults ≤ old.faults → Part failed start before old
    → Part gone start (before ++ []) (record { name = old.name; taken = taken; faults = faults; waiting = []; failed = gone })
part_handed false false start old before taken faults passed wrote lost rose less h = record {
  sent = h.sent ++ old.waiting;
  taken = appends_then start.taken old.taken taken h.sent old.waiting h.taken (wrote refl refl);
  is = ap (λ text. text ++ []) h.is;
}
part_handed false true start old before taken faults passed wrote lost rose less h = record {
  rose = risen_more start.faults old.faults faults less (rose refl refl);
  taken = part_of_more start.taken taken before [] (subst (AppendsPart start.taken taken) (sym h.is) (part_behind start.taken old.taken taken h.sent old.waiting h.taken (lost refl refl)));
}
part_handed true false start old before taken faults passed wrote lost rose less h = let never : false ≡ true = (passed refl).0 in cc
part_handed true true start old before taken faults passed wrote lost rose less h = record {
  rose = subst (Rose start.faults) (sym ((passed refl).2)) h.rose;
  taken = subst (λ now. AppendsPart start.taken now (before ++ [])) (sym ((passed refl).1)) (part_of_more start.taken old.taken before [] h.taken);
}

-- What waited was handed on.
pub handed_on : (old : Seen) (taken : Option (List ℕ)) (faults : ℕ) (gone : Bool)
    → (old.failed ≡ true → (gone ≡ true) × (taken ≡ old.taken) × (faults ≡ old.faults))
    → (old.failed ≡ false → gone ≡ false → Appends old.taken taken old.waiting)
    → (old.failed ≡ false → gone ≡ true → AppendsPart old.taken taken old.waiting)
    → (old.failed ≡ false → gone ≡ true → Rose old.faults faults)
    → old.faults ≤ faults
    → Puts old (record { name = old.name; taken = taken; faults = faults; waiting = []; failed = gone }) []
handed_on old taken faults gone passed wrote lost rose less = record {
  same = refl;
  puts = λ start before h. record {
    later = omega (arith, h.later, less);
    part = part_handed old.failed gone start old before taken faults passed wrote lost rose h.later h.part;
  };
}

-- The next bytes of a text were put.
pub puts_next : (p q r : Seen) (at n : ℕ) (bytes : List ℕ) → Puts p q (take at bytes) → Puts q r (take n (drop at bytes))
    → Puts p r (take (at + n) bytes)
puts_next p q r at n bytes h g = subst (Puts p r) (sym (take-add at n bytes)) (puts_then h g)

-- The text of one item more was put.
pub puts_each : {p q r : Seen} {A : Type 0} (f : A → List ℕ) (xs : List A) (i : ℕ) (d : A) → i < length xs
    → Puts p q (flat_map f (take i xs)) → Puts q r (f (get_or xs i d)) → Puts p r (flat_map f (take (i + 1) xs))
puts_each {p} {q} {r} f xs i d less h g =
    let x = get_or xs i d in
    let more : flat_map f (take (i + 1) xs) ≡ flat_map f (take i xs) ++ f x =
    ap (flat_map f) (take_more xs i d less) ∙ flat_map-append f (take i xs) (x ∷ []) ∙ ap (λ t. flat_map f (take i xs) ++ t) (append-nil (f x)) in
    subst (Puts p r) (sym more) (puts_then h g)

-- The same, of an item that is known by its place.
pub puts_item_of : {p q r : Seen} {A : Type 0} (f : A → List ℕ) (xs : List A) (i : ℕ) (x : A) → i < length xs → x ≡ get_or xs i x
    → Puts p q (flat_map f (take i xs)) → Puts q r (f x) → Puts p r (flat_map f (take (i + 1) xs))
puts_item_of {p} {q} {r} f xs i x less is h g = puts_each f xs i x less h (subst (λ y. Puts q r (f y)) is g)

joined_more : (done : List ℕ) (texts : List (List ℕ)) (text : List ℕ) → joined_to done (texts ++ text ∷ []) ≡ joined_to done texts ++ text
joined_more done [] text = refl
joined_more done (t ∷ texts) text = joined_more (done ++ t) texts text

joined_behind : (texts : List (List ℕ)) (text : List ℕ) → joined (texts ++ text ∷ []) ≡ joined texts ++ text
joined_behind [] text = refl
joined_behind (t ∷ texts) text = joined_more t texts text

-- One text more was put.
pub puts_text : {p q r : Seen} {A : Type 0} (f : A → List ℕ) (xs : List A) (i : ℕ) (d : A) → i < length xs
    → Puts p q (joined (map f (take i xs))) → Puts q r (f (get_or xs i d)) → Puts p r (joined (map f (take (i + 1) xs)))
puts_text {p} {q} {r} f xs i d less h g =
    let x = get_or xs i d in
    let more : joined (map f (take (i + 1) xs)) ≡ joined (map f (take i xs)) ++ f x =
    ap (λ ys. joined (map f ys)) (take_more xs i d less) ∙ ap joined (map-append f (take i xs) (x ∷ [])) ∙ joined_behind (map f (take i xs)) (f x) in
    subst (Puts p r) (sym more) (puts_then h g)

-- An item of a list was put, behind its comma.
pub puts_item : {p q r s : Seen} (items : List Value) (i : ℕ) (v : Value) → i < length items → v ≡ get_or items i v
    → Puts p q (codes "[" ++ listed (map value_text (take i items))) → Puts q r (comma i) → Puts r s (value_text v)
    → Puts p s (codes "[" ++ listed (map value_text (take (i + 1) items)))
puts_item {p} {q} {r} {s} items i v less is h g k = subst (Puts p s) (next_text items i v (codes "[") less is) (puts_then (puts_then h g) k)

-- The list was closed.
pub puts_list : {p q r : Seen} (items : List Value) (i : ℕ) → length items ≤ i
    → Puts p q (codes "[" ++ listed (map value_text (take i items))) → Puts q r (codes "]") → Puts p r (value_text (Listed items))
puts_list {p} {q} {r} items i all h g =
    subst (Puts p r) (ap (λ (vs : List Value). codes "[" ++ listed (map value_text vs) ++ codes "]") (take_all i items all) ∙ sym (list-text items)) (puts_then h g)

appends_none : (a : Option (List ℕ)) → Appends a a []
appends_none None = tt
appends_none (Some xs) = sym (append-nil xs)

part_at_start : (failed : Bool) (start : Seen) → failed ≡ false → start.waiting ≡ [] → Part failed start [] start
part_at_start false start fine empty = record { sent = []; taken = appends_none start.taken; is = sym empty }
part_at_start true start fine empty = let never : true ≡ false = fine in cc

-- What became of a text that was put where nothing was put before.
put_whole : (start now : Seen) (text : List ℕ) → start.failed ≡ false → start.waiting ≡ [] → Puts start now text
    → HasPut start text now
put_whole start now text fine empty h =
    h.puts start [] (record { later = omega arith; part = part_at_start start.failed start fine empty })

taken_by : (failed : Bool) (start now : Seen) (text : List ℕ) → failed ≡ false → now.waiting ≡ [] → Part failed start text now
    → Appends start.taken now.taken text
taken_by false start now text fine empty h =
    subst (Appends start.taken now.taken) (sym (h.is ∙ ap (λ waiting. h.sent ++ waiting) empty ∙ append-nil h.sent)) h.taken
taken_by true start now text fine empty h = let never : true ≡ false = fine in cc

lost_by : (failed : Bool) (start now : Seen) (text : List ℕ) → failed ≡ true → Part failed start text now → Lost start text now
lost_by false start now text gone h = let never : false ≡ true = gone in cc
lost_by true start now text gone h = h

-- A text was put and handed on: the sink has taken it, or it has failed and took a first part.
pub all_taken : (start now : Seen) (text : List ℕ) → now.failed ≡ false → now.waiting ≡ [] → HasPut start text now
    → Appends start.taken now.taken text
all_taken start now text fine empty h = taken_by now.failed start now text fine empty h.part

pub some_taken : (start now : Seen) (text : List ℕ) → now.failed ≡ true → HasPut start text now → Lost start text now
some_taken start now text gone h = lost_by now.failed start now text gone h.part

-- What became of a text that was put where nothing was put before, and was handed on.
pub closed_with : (start mid now : Seen) (text : List ℕ) → start.failed ≡ false → start.waiting ≡ [] → Puts start mid text
    → Puts mid now [] → HasPut start text now
closed_with start mid now text fine empty h g =
    subst (λ t. HasPut start t now) (append-nil text) (put_whole start now (text ++ []) fine empty (puts_then h g))
