use Rattle.std.proofs.lemmas.Result.{IfOk-weaker}
use Rattle.sc_words.proofs.TableLemmas.{bare_is, joined_is}
use Rattle.sc_words.proofs.table.table.Goals as goal

pub returns : goal.returns
returns c =
    let bare = bare_is _ _ _ c.no_binary_name.ensures c.subcommand_required-bare.ensures c.new.ensures.app c.new.ensures.local in
    let one = joined_is _ _ _ _ _ c.in_ok-one.ensures bare.app c.new-2.ensures.app in
    let two = joined_is _ _ _ _ _ c.in_ok-two.ensures one.app c.in_ok-run_command.ensures.app in
    let three = joined_is _ _ _ _ _ c.in_ok-three.ensures two.app c.new-3.ensures.app in
    let four = joined_is _ _ _ _ _ c.in_ok-four.ensures three.app c.new-4.ensures.app in
    IfOk-weaker c.joined-5.result _ _ (λ all h. joined_is _ _ _ _ _ h four.app c.in_ok-gen_command.ensures.app) c.joined-5.ensures
