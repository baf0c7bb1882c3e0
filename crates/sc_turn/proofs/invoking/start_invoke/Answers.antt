use Rattle.std.proofs.Common.{◌≡◌, ◌+◌, List, ℕ, Some, ap, ap₂, map, sym, ◌∙◌}
use Rattle.std.proofs.lemmas.Result.{on_ok_weaker}
use Rattle.sc_types.specs.declared.attribute.Attribute.TheVariants as attribute
use Rattle.sc_types.specs.Attributes.{words_at}
use Rattle.sc_law.specs.Invokes.{start_written}
use Rattle.sc_law.specs.Sending.{PairsOf, child_of, names_of}
use Rattle.sc_eval.specs.Envs.{env_of}
use Rattle.sc_exec.specs.Runs.{running_of}
use Rattle.sc_select.proofs.RunLemmas.{run_has_ids}
use Rattle.sc_turn.proofs.StartLemmas.{params-born, start-named}
use Rattle.sc_turn.proofs.invoking.start_invoke.Goals as goal

pub params-requires : goal.params-requires
params-requires c = run_has_ids c.args.t.now c.args.run.now c.requires.run

pub start_written-requires : goal.start_written-requires
start_written-requires c = record {
  number = ap (λ k. k + 1) (sym (params-born (map child_of c.slice.result.now) (running_of c.args.run.now)
      (running_of c.params.new.run) c.in_ok-given.given c.in_ok-given.ensures.ok));
}

pub returns-clause-ok : goal.returns-clause-ok
returns-clause-ok c =
    let n = c.args.node.now in
    let r = running_of c.args.run.now in
    let q = running_of c.params.new.run in
    let e : names_of (words_at attribute.NameList n) (env_of c.args.run.now.env) ≡ Some c.in-Some.named =
    ap (λ ws. names_of ws (env_of c.args.run.now.env)) (sym c.words.ensures) ∙ sym c.in_ok-named.ensures ∙ c.in-Some.is in
    on_ok_weaker c.start_written.result
    (λ w. start-named c.args.t.now c.args.s c.args.place n r q (running_of c.start_written.new.run) c.in-Some.named
    c.in_ok-given.given c.slice.result.now (sym c.may_start.ensures ∙ c.if-not-may_start.false) e c.slice.ensures
    c.in_ok-given.ensures.ok
    (ap₂ (λ (id : List ℕ) (pairs : PairsOf). start_written c.args.s c.args.place n id pairs q) (sym c.in_ok-id.ensures)
    (sym c.in_ok-pairs.ensures) ∙ w))
    c.start_written.ensures.ok
