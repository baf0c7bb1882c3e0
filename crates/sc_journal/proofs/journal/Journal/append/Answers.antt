use Rattle.std.proofs.Common.{◌≡◌, ◌∙◌, ◌⊎◌, inr, ℕ, ◌+◌, ◌≤◌, ◌^◌, Bool, true, false, None, Some, List, ◌∷◌, [], ◌++◌, length, refl, sym, ap, subst, arith, length-append}
use Rattle.sc_frame.proofs.FieldLemmas.{length-number_field}
use Rattle.sc_frame.specs.Fields.{number_field}
use Rattle.sc_journal.specs.Journals.{JournalOf, Keeps, IsWithOrWithout}
use Rattle.sc_journal.specs.JournalInside.{journal_inside, doubted, buffered_body}
use Rattle.sc_journal.specs.Stops.{LeavesOnly}
use Rattle.sc_journal.proofs.Kept.{on-err, buffered, kept-behind, staged, kept-gate, kept-open, moments-behind, moments-gate}
use Rattle.sc_journal.proofs.journal.Journal.append.Goals as goal

pair : {A B C : Type 0} → A → B → C → A × (B × C)
pair a b c = (a, (b, c))

-- whatever the buffer holds, nothing is in doubt
still : (in_doubt : Bool) (old new : List ℕ) → doubted in_doubt old ≡ None → doubted in_doubt new ≡ None
still true old new none = absurd (cc)
still false old new none = refl

pub write_synced-requires-clause-range : goal.write_synced-requires-clause-range
write_synced-requires-clause-range g c κs within =
    let same_end : c.self.inside.end ≡ c.args.self.now.end = ap (λ (x : JournalOf g.row.D.Denot). x.end) c.self.view_is in
    let same_next : c.self.inside.next ≡ c.args.self.now.next = ap (λ (x : JournalOf g.row.D.Denot). x.next) c.self.view_is in
    let room = c.is_full.ensures.room c.if-is_full.false in
    let long : length c.deref.result.now ≡ 4 + (length c.args.body.now + 1) =
    ap length (c.deref.ensures.value ∙ c.fill.ensures.items) ∙ length-append (number_field 4 (length c.args.body.now)) (c.args.body.now ++ 0 ∷ [])
    ∙ (λ i. length-number_field 4 (length c.args.body.now) i + length-append c.args.body.now (0 ∷ []) i) in
    omega (arith, same_end, room.0, long)

pub returns-in_err-write_synced-clause-kept : goal.returns-in_err-write_synced-clause-kept
returns-in_err-write_synced-clause-kept g c = λ head bodies keeps.
    let laws = g.met.D.Disk g.world.𝓛 g.world.𝓜 g.world.𝓡 ((λ s x. x), (λ x. x), (λ x. x), λ x. x) in
    let law = g.D.Disk.law in
    let j = journal_inside c.self.inside in
    let kj = subst (λ (x : JournalOf g.row.D.Denot). Keeps law x head bodies) (sym c.self.view_is) keeps in
    let none : j.doubt ≡ None = ap (λ (x : JournalOf g.row.D.Denot). x.doubt) c.self.view_is ∙ c.requires.settled in
    let k : JournalOf g.row.D.Denot = record { disk = c.write_synced.new.disk; end = j.end; next = j.next; doubt = doubted c.self.inside.is_in_doubt c.fill.new.buffer.items } in
    on-err _ _ (kept-behind law head bodies j kj k (length c.deref.result.now) none (still c.self.inside.is_in_doubt c.self.inside.buffer.items c.fill.new.buffer.items none) refl refl c.write_synced.ensures.images)

pub returns-in_err-write_synced-clause-any_moment :
    goal.returns-in_err-write_synced-clause-any_moment
returns-in_err-write_synced-clause-any_moment g c = λ head bodies keeps.
    let laws = g.met.D.Disk g.world.𝓛 g.world.𝓜 g.world.𝓡 ((λ s x. x), (λ x. x), (λ x. x), λ x. x) in
    let law = g.D.Disk.law in
    let j = journal_inside c.self.inside in
    let kj = subst (λ (x : JournalOf g.row.D.Denot). Keeps law x head bodies) (sym c.self.view_is) keeps in
    let none : j.doubt ≡ None = ap (λ (x : JournalOf g.row.D.Denot). x.doubt) c.self.view_is ∙ c.requires.settled in
    let start = moments-behind law laws.only_now head bodies j kj c.args.body.now c.write_synced.new.disk (length c.deref.result.now) none c.write_synced.ensures.passes in
    subst (λ (x : JournalOf g.row.D.Denot). LeavesOnly law x.disk c.write_synced.new.disk (IsWithOrWithout head bodies c.args.body.now)) c.self.view_is start

pub returns-in_err-write_synced-2-clause-not_added :
    goal.returns-in_err-write_synced-2-clause-not_added
returns-in_err-write_synced-2-clause-not_added g c =
    let same_end : c.self.inside.end ≡ c.args.self.now.end = ap (λ (x : JournalOf g.row.D.Denot). x.end) c.self.view_is in
    let same_next : c.self.inside.next ≡ c.args.self.now.next = ap (λ (x : JournalOf g.row.D.Denot). x.next) c.self.view_is in
    let doubt : (Some (buffered_body c.fill.new.buffer.items) ≡ None) ⊎ (Some (buffered_body c.fill.new.buffer.items) ≡ Some c.args.body.now) = inr (ap Some (buffered _ _ c.fill.ensures.items)) in
    on-err _ _ (pair same_end same_next doubt)

pub returns-in_err-write_synced-2-clause-kept : goal.returns-in_err-write_synced-2-clause-kept
returns-in_err-write_synced-2-clause-kept g c = λ head bodies keeps.
    let laws = g.met.D.Disk g.world.𝓛 g.world.𝓜 g.world.𝓡 ((λ s x. x), (λ x. x), (λ x. x), λ x. x) in
    let law = g.D.Disk.law in
    let j = journal_inside c.self.inside in
    let kj = subst (λ (x : JournalOf g.row.D.Denot). Keeps law x head bodies) (sym c.self.view_is) keeps in
    let none : j.doubt ≡ None = ap (λ (x : JournalOf g.row.D.Denot). x.doubt) c.self.view_is ∙ c.requires.settled in
    let same_end : c.self.inside.end ≡ c.args.self.now.end = ap (λ (x : JournalOf g.row.D.Denot). x.end) c.self.view_is in
    let same_next : c.self.inside.next ≡ c.args.self.now.next = ap (λ (x : JournalOf g.row.D.Denot). x.next) c.self.view_is in
    let room = c.is_full.ensures.room c.if-is_full.false in
    let number : j.next ≤ 2 ^ 48 = omega (arith, same_next, room.1) in
    let form = c.deref.ensures.value ∙ c.fill.ensures.items in
    let first = c.in_ok-write_synced.ensures in
    let mid = staged law head bodies j kj c.write_synced.new.disk c.args.body.now c.deref.result.now (laws.stands j.disk) none c.requires.some c.requires.most number
    form (first.outside kj.told) (first.written kj.told) (first.durable kj.told) in
    on-err _ _ (kept-gate law head bodies j kj _ c.write_synced.new.disk c.args.body.now mid (ap Some (buffered _ _ c.fill.ensures.items)) refl refl c.write_synced-2.ensures.images)

pub returns-in_err-write_synced-2-clause-any_moment :
    goal.returns-in_err-write_synced-2-clause-any_moment
returns-in_err-write_synced-2-clause-any_moment g c = λ head bodies keeps.
    let laws = g.met.D.Disk g.world.𝓛 g.world.𝓜 g.world.𝓡 ((λ s x. x), (λ x. x), (λ x. x), λ x. x) in
    let law = g.D.Disk.law in
    let j = journal_inside c.self.inside in
    let kj = subst (λ (x : JournalOf g.row.D.Denot). Keeps law x head bodies) (sym c.self.view_is) keeps in
    let none : j.doubt ≡ None = ap (λ (x : JournalOf g.row.D.Denot). x.doubt) c.self.view_is ∙ c.requires.settled in
    let same_end : c.self.inside.end ≡ c.args.self.now.end = ap (λ (x : JournalOf g.row.D.Denot). x.end) c.self.view_is in
    let same_next : c.self.inside.next ≡ c.args.self.now.next = ap (λ (x : JournalOf g.row.D.Denot). x.next) c.self.view_is in
    let room = c.is_full.ensures.room c.if-is_full.false in
    let number : j.next ≤ 2 ^ 48 = omega (arith, same_next, room.1) in
    let form = c.deref.ensures.value ∙ c.fill.ensures.items in
    let first = c.in_ok-write_synced.ensures in
    let mid = staged law head bodies j kj c.write_synced.new.disk c.args.body.now c.deref.result.now (laws.stands j.disk) none c.requires.some c.requires.most number
    form (first.outside kj.told) (first.written kj.told) (first.durable kj.told) in
    let start = moments-behind law laws.only_now head bodies j kj c.args.body.now c.write_synced.new.disk (length c.deref.result.now) none c.write_synced.ensures.passes in
    subst (λ (x : JournalOf g.row.D.Denot). LeavesOnly law x.disk c.write_synced-2.new.disk (IsWithOrWithout head bodies c.args.body.now)) c.self.view_is
    (moments-gate law laws.only_now head bodies j kj c.args.body.now c.write_synced.new.disk c.write_synced-2.new.disk start mid c.write_synced-2.ensures.passes)

pub returns-clause-acknowledged : goal.returns-clause-acknowledged
returns-clause-acknowledged g c = λ head bodies keeps.
    let laws = g.met.D.Disk g.world.𝓛 g.world.𝓜 g.world.𝓡 ((λ s x. x), (λ x. x), (λ x. x), λ x. x) in
    let law = g.D.Disk.law in
    let j = journal_inside c.self.inside in
    let kj = subst (λ (x : JournalOf g.row.D.Denot). Keeps law x head bodies) (sym c.self.view_is) keeps in
    let none : j.doubt ≡ None = ap (λ (x : JournalOf g.row.D.Denot). x.doubt) c.self.view_is ∙ c.requires.settled in
    let same_end : c.self.inside.end ≡ c.args.self.now.end = ap (λ (x : JournalOf g.row.D.Denot). x.end) c.self.view_is in
    let same_next : c.self.inside.next ≡ c.args.self.now.next = ap (λ (x : JournalOf g.row.D.Denot). x.next) c.self.view_is in
    let room = c.is_full.ensures.room c.if-is_full.false in
    let number : j.next ≤ 2 ^ 48 = omega (arith, same_next, room.1) in
    let form = c.deref.ensures.value ∙ c.fill.ensures.items in
    let first = c.in_ok-write_synced.ensures in
    let mid = staged law head bodies j kj c.write_synced.new.disk c.args.body.now c.deref.result.now (laws.stands j.disk) none c.requires.some c.requires.most number
    form (first.outside kj.told) (first.written kj.told) (first.durable kj.told) in
    let second = c.in_ok-write_synced-2.ensures in
    kept-open law head bodies j kj _ c.write_synced.new.disk c.args.body.now mid (laws.stands c.write_synced.new.disk) refl refl refl
    (second.outside kj.told) (second.written kj.told) (second.durable kj.told)

pub returns-clause-any_moment : goal.returns-clause-any_moment
returns-clause-any_moment g c = λ head bodies keeps.
    let laws = g.met.D.Disk g.world.𝓛 g.world.𝓜 g.world.𝓡 ((λ s x. x), (λ x. x), (λ x. x), λ x. x) in
    let law = g.D.Disk.law in
    let j = journal_inside c.self.inside in
    let kj = subst (λ (x : JournalOf g.row.D.Denot). Keeps law x head bodies) (sym c.self.view_is) keeps in
    let none : j.doubt ≡ None = ap (λ (x : JournalOf g.row.D.Denot). x.doubt) c.self.view_is ∙ c.requires.settled in
    let same_end : c.self.inside.end ≡ c.args.self.now.end = ap (λ (x : JournalOf g.row.D.Denot). x.end) c.self.view_is in
    let same_next : c.self.inside.next ≡ c.args.self.now.next = ap (λ (x : JournalOf g.row.D.Denot). x.next) c.self.view_is in
    let room = c.is_full.ensures.room c.if-is_full.false in
    let number : j.next ≤ 2 ^ 48 = omega (arith, same_next, room.1) in
    let form = c.deref.ensures.value ∙ c.fill.ensures.items in
    let first = c.in_ok-write_synced.ensures in
    let mid = staged law head bodies j kj c.write_synced.new.disk c.args.body.now c.deref.result.now (laws.stands j.disk) none c.requires.some c.requires.most number
    form (first.outside kj.told) (first.written kj.told) (first.durable kj.told) in
    let start = moments-behind law laws.only_now head bodies j kj c.args.body.now c.write_synced.new.disk (length c.deref.result.now) none c.write_synced.ensures.passes in
    subst (λ (x : JournalOf g.row.D.Denot). LeavesOnly law x.disk c.write_synced-2.new.disk (IsWithOrWithout head bodies c.args.body.now)) c.self.view_is
    (moments-gate law laws.only_now head bodies j kj c.args.body.now c.write_synced.new.disk c.write_synced-2.new.disk start mid c.write_synced-2.ensures.passes)
