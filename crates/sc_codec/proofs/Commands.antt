-- Commands: what is read is spelled so, and what is spelled so is read.
use Rattle.std.proofs.Common.{◌≡◌, ℕ, ◌==◌, cond, List, [], ◌∷◌, ◌++◌, length, Option, Some, None, Result, Ok, Err, refl, sym, ap, subst, ◌∙◌, inl, inr}
use Rattle.std.specs.Prelude.{IfOk}
use Rattle.std.proofs.lemmas.Bool.{eqb-true}
use Rattle.std.proofs.lemmas.List.{append-nil, nil_from_length}
use Rattle.std.proofs.lemmas.Option.{cond_some, same_Some}
use Rattle.sc_base.specs.Text.{IsWord}
use Rattle.sc_codec.specs.Bodies.{Pair, name_field, pairs_field, body_of, IsShort, IsEncodable, HasForms, Spells}
use Rattle.sc_codec.specs.Reading.{Reader, Gives, number_from, sized_from, both, made, word_from, pairs_from, install_from, start_from, post_from, tick_from, cancel_from, step_from, command_of_kind, command_from, command_of}
use Rattle.sc_codec.specs.declared.fault.CodecFault.{CodecFault}
use Rattle.sc_codec.specs.declared.fault.CodecFault.TheVariants.{NotCommand}
use Rattle.sc_codec.proofs.Fields.{IsBytes, IsBytes-behind, Taken, Takes, Again, bind_some, made_some, taken_kind, takes_number, again_number, takes_sized, again_sized, sized_field}
use Rattle.sc_codec.proofs.Pairs.{ArePairs, takes_pairs, again_pairs}
use Rattle.sc_codec.proofs.Names.{takes_word, again_word}
use Rattle.sc_codec.proofs.Steps.{takes_both, again_both}
use Rattle.sc_codec.proofs.ValuesTaken.{chosen}
use Rattle.sc_frame.specs.Fields.{number_field}
use Rattle.sc_types.specs.declared.command.Command.{Command}
use Rattle.sc_types.specs.declared.command.Command.TheVariants.{Install, Start, Post, Tick, Cancel, Step}

-- ---- what is read is spelled so

-- these bytes behind the byte of a kind are a command's and the rest
abbrev Told : ℕ → List ℕ → List ℕ → Command → Type 0
Told kind bytes rest c = Taken (kind ∷ bytes) (body_of c) rest × (IsEncodable c × HasForms c)

-- what the reader of a kind takes is a command's, and the rest
abbrev ToldBy : ℕ → Reader Command → Type 0
ToldBy k read =
    (kind : ℕ) (bytes : List ℕ) (c : Command) (rest : List ℕ) → IsBytes bytes → kind ≡ k → read bytes ≡ Some (c, rest)
    → Told kind bytes rest c

retold : (kind k : ℕ) (bytes rest : List ℕ) (b c : Command) → kind ≡ k → b ≡ c → Told k bytes rest b
    → Told kind bytes rest c
retold kind k bytes rest b c e f t =
    subst (λ (d : Command). Told kind bytes rest d) f (subst (λ (n : ℕ). Told n bytes rest b) (sym e) t)

install_takes : ToldBy 1 install_from
unfolding install_from
install_takes kind bytes c rest h k e =
    let m = made_some (λ x. Install x.0 x.1) (both word_from (sized_from 4) bytes) c rest e in
    let t = (takes_both word_from (sized_from 4) name_field (sized_field 4) takes_word (takes_sized 4)).of bytes m.0
    rest h m.1 in
    retold kind 1 bytes rest (Install m.0.0 m.0.1) c k m.2 (
      taken_kind 1 bytes (name_field m.0.0 ++ sized_field 4 m.0.1) rest (body_of (Install m.0.0 m.0.1)) t.0 refl,
      ((t.1.0.0, t.1.1), t.1.0.1),
    )

start_takes : ToldBy 2 start_from
unfolding start_from
start_takes kind bytes c rest h k e =
    let m = made_some (λ x. Start x.0 x.1) (both word_from word_from bytes) c rest e in
    let t = (takes_both word_from word_from name_field name_field takes_word takes_word).of bytes m.0 rest h m.1 in
    retold kind 2 bytes rest (Start m.0.0 m.0.1) c k m.2 (
      taken_kind 2 bytes (name_field m.0.0 ++ name_field m.0.1) rest (body_of (Start m.0.0 m.0.1)) t.0 refl,
      ((t.1.0.0, t.1.1.0), (t.1.0.1, t.1.1.1)),
    )

-- an event's name, and the pairs behind it
abbrev event_field : List ℕ × List Pair → List ℕ
event_field p = name_field p.0 ++ pairs_field p.1

abbrev IsEvent : List ℕ × List Pair → Type 0
IsEvent p = (IsShort p.0 × IsWord p.0) × ArePairs p.1

event_takes : Takes (both word_from pairs_from) event_field IsEvent
event_takes = takes_both word_from pairs_from name_field pairs_field takes_word takes_pairs

post_takes : ToldBy 3 post_from
unfolding post_from
post_takes kind bytes c rest h k e =
    let m = made_some (λ x. Post x.0 x.1.0 x.1.1) (both word_from (both word_from pairs_from) bytes) c rest e in
    let t = (takes_both word_from (both word_from pairs_from) name_field event_field takes_word event_takes).of bytes
    m.0 rest h m.1 in
    retold kind 3 bytes rest (Post m.0.0 m.0.1.0 m.0.1.1) c k m.2 (
      taken_kind 3 bytes (name_field m.0.0 ++ (name_field m.0.1.0 ++ pairs_field m.0.1.1)) rest
          (body_of (Post m.0.0 m.0.1.0 m.0.1.1)) t.0 refl,
      ((t.1.0.0, (t.1.1.0.0, t.1.1.1.0)), (t.1.0.1, (t.1.1.0.1, t.1.1.1.1))),
    )

tick_takes : ToldBy 4 tick_from
unfolding tick_from
tick_takes kind bytes c rest h k e =
    let m = made_some (λ ticks. Tick ticks) (number_from 8 bytes) c rest e in
    let t = (takes_number 8).of bytes m.0 rest h m.1 in
    retold kind 4 bytes rest (Tick m.0) c k m.2 (
      taken_kind 4 bytes (number_field 8 m.0) rest (body_of (Tick m.0)) t.0
          refl,
      (tt, t.1),
    )

cancel_takes : ToldBy 5 cancel_from
unfolding cancel_from
cancel_takes kind bytes c rest h k e =
    let m = made_some (λ session. Cancel session) (word_from bytes) c rest e in
    let t = takes_word.of bytes m.0 rest h m.1 in
    retold kind 5 bytes rest (Cancel m.0) c k m.2 (
      taken_kind 5 bytes (name_field m.0) rest (body_of (Cancel m.0)) t.0
          refl,
      t.1,
    )

step_takes : ToldBy 6 step_from
unfolding step_from
step_takes kind bytes c rest h k e =
    let m = made_some (λ session. Step session) (word_from bytes) c rest e in
    let t = takes_word.of bytes m.0 rest h m.1 in
    retold kind 6 bytes rest (Step m.0) c k m.2 (
      taken_kind 6 bytes (name_field m.0) rest (body_of (Step m.0)) t.0
          refl,
      t.1,
    )

kind_takes : (kind : ℕ) (bytes : List ℕ) (c : Command) (rest : List ℕ) → IsBytes bytes
    → command_of_kind kind bytes ≡ Some (c, rest) → Told kind bytes rest c
unfolding command_of_kind
kind_takes kind bytes c rest h e =
    elim (chosen (kind == 1) (install_from bytes) _ (Some (c, rest)) e) [
      | inl p ↦ install_takes kind bytes c rest h (eqb-true kind 1 p.0) p.1
      | inr e ↦ elim (chosen (kind == 2) (start_from bytes) _ (Some (c, rest)) e.1) [
        | inl p ↦ start_takes kind bytes c rest h (eqb-true kind 2 p.0) p.1
        | inr e ↦ elim (chosen (kind == 3) (post_from bytes) _ (Some (c, rest)) e.1) [
          | inl p ↦ post_takes kind bytes c rest h (eqb-true kind 3 p.0) p.1
          | inr e ↦ elim (chosen (kind == 4) (tick_from bytes) _ (Some (c, rest)) e.1) [
            | inl p ↦ tick_takes kind bytes c rest h (eqb-true kind 4 p.0) p.1
            | inr e ↦ elim (chosen (kind == 5) (cancel_from bytes) _ (Some (c, rest)) e.1) [
              | inl p ↦ cancel_takes kind bytes c rest h (eqb-true kind 5 p.0) p.1
              | inr e ↦ elim (chosen (kind == 6) (step_from bytes) None (Some (c, rest)) e.1) [
                | inl p ↦ step_takes kind bytes c rest h (eqb-true kind 6 p.0) p.1
                | inr n ↦ absurd (none_some c rest n.1)
              ]
            ]
          ]
        ]
      ]
    ]
  where
    none_some : (c : Command) (rest : List ℕ) → ◌≡◌ {A = Option (Command × List ℕ)} None (Some (c, rest)) → ⊥
    none_some c rest e = cc

command_takes : (bytes : List ℕ) (c : Command) (rest : List ℕ) → IsBytes bytes → command_from bytes ≡ Some (c, rest)
    → Taken bytes (body_of c) rest × (IsEncodable c × HasForms c)
unfolding command_from
command_takes [] c rest h e = absurd cc
command_takes (kind ∷ bytes) c rest h e = kind_takes kind bytes c rest (IsBytes-behind kind bytes h) e

-- what all of the bytes are read as is spelled by them
pub read_is_spelled : (body : List ℕ) (c : Command) → IsBytes body → command_of body ≡ Some c → Spells body c
unfolding command_of
read_is_spelled body c h e =
    let a = bind_some (command_from body) (λ x. cond (length x.1 == 0) (Some x.0) None) c e in
    let g = cond_some (length a.0.1 == 0) a.0.0 c a.2 in
    let t = command_takes body a.0.0 a.0.1 h a.1 in
    let nothing : a.0.1 ≡ [] = nil_from_length a.0.1 (eqb-true _ _ g.0) in
    let whole : body ≡ body_of a.0.0 = t.0.parts ∙ ap (λ (r : List ℕ). body_of a.0.0 ++ r) nothing
    ∙ append-nil (body_of a.0.0) in
    subst (λ (d : Command). Spells body d) g.1 (record { same = whole; room = t.1.0; forms = t.1.1 })

-- ---- what is spelled so is read

event_again : Again (both word_from pairs_from) event_field IsEvent
event_again = again_both word_from pairs_from name_field pairs_field again_word again_pairs

command_again : (c : Command) (rest : List ℕ) → IsEncodable c → HasForms c → command_from (body_of c ++ rest)
    ≡ Some (c, rest)
unfolding command_from command_of_kind install_from start_from post_from tick_from cancel_from step_from
command_again (Install name chart) rest r f =
    ap (made (λ x. Install x.0 x.1))
    ((again_both word_from (sized_from 4) name_field (sized_field 4) again_word (again_sized 4)).of (name, chart) rest
    ((r.0, f), r.1))
command_again (Start session chart) rest r f =
    ap (made (λ x. Start x.0 x.1))
    ((again_both word_from word_from name_field name_field again_word again_word).of (session, chart) rest
    ((r.0, f.0), (r.1, f.1)))
command_again (Post session event pairs) rest r f =
    ap (made (λ x. Post x.0 x.1.0 x.1.1))
    ((again_both word_from (both word_from pairs_from) name_field event_field again_word event_again).of
    (session, (event, pairs)) rest
    ((r.0, f.0), ((r.1.0, f.1.0), (r.1.1, f.1.1))))
command_again (Tick ticks) rest r f = ap (made (λ n. Tick n)) ((again_number 8).of ticks rest f)
command_again (Cancel session) rest r f = ap (made (λ s. Cancel s)) (again_word.of session rest (r, f))
command_again (Step session) rest r f = ap (made (λ s. Step s)) (again_word.of session rest (r, f))

-- the command that a body spells is read from it
pub spelled_is_read : (body : List ℕ) (c : Command) → Spells body c → command_of body ≡ Some c
unfolding command_of
spelled_is_read body c s =
    let front : command_from body ≡ Some (c, []) = ap command_from (s.same ∙ sym (append-nil (body_of c)))
    ∙ command_again c [] s.room s.forms in
    rw front refl

-- no body spells two commands
pub one_command : (body : List ℕ) (c d : Command) → Spells body c → Spells body d → d ≡ c
one_command body c d s t = same_Some d c (sym (spelled_is_read body d t) ∙ spelled_is_read body c s)

-- ---- what a call answers that gives what reading gives

-- what a call finds is spelled by the body
pub found_is_spelled : (body : List ℕ) (r : Result Command CodecFault) → IsBytes body
    → Gives (λ c. c) r (command_of body) → IfOk r (λ c. Spells body c)
found_is_spelled body (Ok c) h given = read_is_spelled body c h given
found_is_spelled body (Err e) h given = tt

-- what a call finds is the one command that the body spells
pub found_is_one : (body : List ℕ) (r : Result Command CodecFault) → IsBytes body → Gives (λ c. c) r (command_of body)
    → IfOk r (λ c. (d : Command) → Spells body d → d ≡ c)
found_is_one body (Ok c) h given = λ d s. one_command body c d (read_is_spelled body c h given) s
found_is_one body (Err e) h given = tt

-- where a call finds no command, the body spells none
pub none_is_spelled : (body : List ℕ) (r : Result Command CodecFault) → Gives (λ c. c) r (command_of body)
    → r ≡ Err NotCommand
    → (c : Command) → Spells body c → ⊥
none_is_spelled body r given e c s =
    let none : command_of body ≡ None = subst (λ (q : Result Command CodecFault). Gives (λ x. x) q (command_of body)) e
    given in
    none_some c (sym none ∙ spelled_is_read body c s)
  where
    none_some : (c : Command) → ◌≡◌ {A = Option Command} None (Some c) → ⊥
    none_some c e = cc
