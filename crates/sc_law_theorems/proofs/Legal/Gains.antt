-- What a step of an entry adds: each state that is new is filled.
use Rattle.std.proofs.Common.{◌≡◌, ◌⊎◌, inl, inr, ℕ, true, false, List, [], ◌∷◌, refl, sym, subst}
use Rattle.sc_base.specs.Ascending.{contains}
use Rattle.sc_base.specs.Folds.{each}
use Rattle.sc_types.specs.declared.chart.Chart.{Chart}
use Rattle.sc_law.specs.Tree.{is_below}
use Rattle.sc_law.specs.Kinds.{is_compound, is_history, is_parallel}
use Rattle.sc_law.specs.Configurations.{children}
use Rattle.sc_law.specs.Entry.{EntryTriple, Enters, added, is_begun}
use Rattle.sc_law_theorems.proofs.Legal.Lists.{any-by, any-some, has-added, has-cases, has-first, has-later, has-more, with-cases}
use Rattle.sc_law_theorems.proofs.Legal.Tree.{Under, not-back}

-- a state is entered
abbrev pub Has : EntryTriple → ℕ → Type 0
Has e x = contains e.states x ≡ true

-- all that is entered stays entered
abbrev pub HasMore : EntryTriple → EntryTriple → Type 0
HasMore e f = (x : ℕ) → Has e x → Has f x

-- a state is entered, or something below it is
abbrev pub Touched : Chart → EntryTriple → ℕ → Type 0
Touched c f k = (Has f k) ⊎ (is_begun c f k ≡ true)

-- a state that is entered with something below it where it is compound, and in each of its regions where it is parallel
pub record IsDone (c : Chart) (f : EntryTriple) (x : ℕ) : Type 0 where
  pub state : is_history c x ≡ false
  pub compound : is_compound c x ≡ true → is_begun c f x ≡ true
  pub parallel : is_parallel c x ≡ true → (k : ℕ) → contains (children c x) k ≡ true → Touched c f k

-- a part of the tree
abbrev pub Zone : Type 1
Zone = ℕ → Type 0

-- a state in a part of the tree, with all that is above it there
pub record IsFilled (c : Chart) (zone : Zone) (x : ℕ) (f : EntryTriple) : Type 0 where
  pub inside : zone x
  pub held : (a : ℕ) → Under c x a → zone a → Has f a
  pub done : IsDone c f x

-- what a state may have in an entry
abbrev pub Property : Type 1
Property = ℕ → EntryTriple → Type 0

-- what is new has the property
pub record Gains (P : Property) (e f : EntryTriple) : Type 0 where
  pub more : HasMore e f
  pub new : (x : ℕ) → Has f x → (Has e x) ⊎ P x f

-- a property that stays as more is entered
abbrev pub Stays : Property → Type 0
Stays P = (x : ℕ) (e f : EntryTriple) → HasMore e f → P x e → P x f

-- a region is begun by each state below it
pub begun-by : (c : Chart) (f : EntryTriple) (x a : ℕ) → Has f x → is_below c x a ≡ true → is_begun c f a ≡ true
begun-by c f x a h i = any-by (λ t. is_below c t a) f.states x h i

-- and by some state
pub begun-some : (c : Chart) (f : EntryTriple) (a : ℕ) → is_begun c f a ≡ true
    → (x : ℕ) × ((Has f x) × (is_below c x a ≡ true))
begun-some c f a h = any-some (λ t. is_below c t a) f.states h

-- it stays begun
pub begun-more : (c : Chart) (e f : EntryTriple) (a : ℕ) → HasMore e f → is_begun c e a ≡ true → is_begun c f a ≡ true
begun-more c e f a more h = let r = begun-some c e a h in begun-by c f r.0 a (more r.0 r.1.0) r.1.1

-- a state stays touched
pub touched-more : (c : Chart) (e f : EntryTriple) (k : ℕ) → HasMore e f → Touched c e k → Touched c f k
touched-more c e f k more (inl h) = inl (more k h)
touched-more c e f k more (inr h) = inr (begun-more c e f k more h)

-- a state stays done
pub done-more : (c : Chart) (x : ℕ) (e f : EntryTriple) → HasMore e f → IsDone c e x → IsDone c f x
done-more c x e f more is = record {
  state = is.state;
  compound = λ t. begun-more c e f x more (is.compound t);
  parallel = λ t k h. touched-more c e f k more (is.parallel t k h);
}

-- a state stays filled
pub filled-more : (c : Chart) (zone : Zone) → Stays (IsFilled c zone)
filled-more c zone x e f more is = record {
  inside = is.inside;
  held = λ a u z. more a (is.held a u z);
  done = done-more c x e f more is.done;
}

-- nothing is new where nothing is entered
pub gains-none : (P : Property) (e : EntryTriple) → Gains P e e
gains-none P e = record { more = λ x h. h; new = λ x h. inl h }

-- what two steps gain
pub gains-then : (P : Property) → Stays P → (e f g : EntryTriple) → Gains P e f → Gains P f g → Gains P e g
gains-then P stays e f g h i = record {
  more = λ x t. i.more x (h.more x t);
  new = λ x t. elim (i.new x t) [
    | inl old ↦ elim (h.new x old) [ inl first ↦ inl first | inr fresh ↦ inr (stays x f g i.more fresh) ]
    | inr fresh ↦ inr fresh
  ];
}

-- what is new has a weaker property too
pub gains-as : (P Q : Property) (e f : EntryTriple) → Gains P e f → ((x : ℕ) → P x f → Q x f) → Gains Q e f
gains-as P Q e f h to = record {
  more = h.more;
  new = λ x t. elim (h.new x t) [ inl old ↦ inl old | inr fresh ↦ inr (to x fresh) ];
}

-- ---- lists of steps

-- what each of several steps gains, they gain together; and what each leaves behind stays
pub record GainsEach (P R : Property) (xs : List ℕ) (e f : EntryTriple) : Type 0 where
  pub gains : Gains P e f
  pub each : (s : ℕ) → contains xs s ≡ true → R s f

gains-first : (P R : Property) → Stays P → Stays R → (x : ℕ) (xs : List ℕ) (e f g : EntryTriple) → Gains P e f → R x f
    → GainsEach P R xs f g
    → GainsEach P R (x ∷ xs) e g
gains-first P R stays also x xs e f g first own rest = record {
  gains = gains-then P stays e f g first rest.gains;
  each = λ s h. elim (has-cases x s xs h) [
    | inl same ↦ subst (λ k. R k g) same (also x f g rest.gains.more own)
    | inr later ↦ rest.each s later
  ];
}

-- what several steps gain, where each finds what it needs
pub each-gains : (P R : Property) (before : EntryTriple → Type 0) → Stays P → Stays R
    → ((e f : EntryTriple) → HasMore e f → before e → before f)
    → (step : Enters) (xs : List ℕ)
    → ((s : ℕ) → contains xs s ≡ true → (e : EntryTriple) → before e → (Gains P e (step s e)) × R s (step s e))
    → (e : EntryTriple) → before e → GainsEach P R xs e (each step xs e)
each-gains P R before stays also keeps step [] one e is = record { gains = gains-none P e; each = λ s h. absurd (cc) }
each-gains P R before stays also keeps step (x ∷ xs) one e is =
    let here = one x (has-first x xs) e is in
    gains-first P R stays also x xs e (step x e) (each step xs (step x e)) here.0 here.1
    (each-gains P R before stays also keeps step xs (λ s h. one s (has-later x s xs h)) (step x e)
    (keeps e (step x e) here.0.more is))

-- ---- a state with what is below it

-- what is below a state, and what is the state or below it
abbrev pub BelowOf : Chart → ℕ → Zone
BelowOf c a = λ x. is_below c x a ≡ true

-- a state with what is below it
abbrev pub UnderOf : Chart → ℕ → Zone
UnderOf c a = λ x. Under c x a

-- a step that enters a state with what is below it
pub record Opens (c : Chart) (a : ℕ) (e f : EntryTriple) : Type 0 where
  pub gains : Gains (IsFilled c (UnderOf c a)) e f
  pub has : Has f a

under-both : (c : Chart) (a b : ℕ) → Under c a b → Under c b a → a ≡ b
under-both c a b (inl e) h = e
under-both c a b (inr h) (inl e) = sym e
under-both c a b (inr h) (inr i) = absurd (not-back c a b h i)

-- a state is entered, then what is below it
pub opens : (c : Chart) (a : ℕ) (e f : EntryTriple) → Gains (IsFilled c (BelowOf c a)) (added a e) f → IsDone c f a
    → Opens c a e f
opens c a e f h done = record {
  has = has;
  gains = record {
    more = λ x t. h.more x (has-more a x e.states t);
    new = λ x t. by x (h.new x t);
  };
} where
  has : Has f a
  has = h.more a (has-added a e.states)

  top : IsFilled c (UnderOf c a) a f
  top = record {
    inside = inl refl;
    held = λ y u z. subst (λ k. Has f k) (under-both c a y u z) has;
    done = done;
  }

  low : (x : ℕ) → IsFilled c (BelowOf c a) x f → IsFilled c (UnderOf c a) x f
  low x is = record {
    inside = inr is.inside;
    held = λ y u z. elim z [ inl e ↦ subst (λ k. Has f k) (sym e) has | inr deep ↦ is.held y u deep ];
    done = is.done;
  }

  by : (x : ℕ) → (Has (added a e) x) ⊎ (IsFilled c (BelowOf c a) x f) → (Has e x) ⊎ (IsFilled c (UnderOf c a) x f)
  by x (inl old) = elim (with-cases a x e.states old) [
    | inl same ↦ inr (subst (λ k. IsFilled c (UnderOf c a) k f) (sym same) top)
    | inr first ↦ inl first
  ]
  by x (inr fresh) = inr (low x fresh)
