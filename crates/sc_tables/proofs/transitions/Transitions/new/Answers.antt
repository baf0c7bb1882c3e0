use Rattle.std.proofs.Common.{◌≡◌, All, length, map, ap, ◌∙◌, rules}
use Rattle.sc_types.specs.Attributes.{words_at}
use Rattle.sc_types.specs.declared.attribute.Attribute.TheVariants.{Target}
use Rattle.sc_law.specs.Nodes.{Path, element}
use Rattle.sc_law.specs.Configurations.{named}
use Rattle.sc_law.specs.Tree.{state_count, state_paths}
use Rattle.sc_law.specs.Transitions.{transition_paths}
use Rattle.sc_tables.specs.Built.{AreSources, HasOwn, IsWithin}
use Rattle.sc_tables.proofs.LookUps.{own-is}
use Rattle.sc_tables.proofs.Sources.{sources-within}
use Rattle.sc_tables.proofs.transitions.Transitions.new.Goals as goal

pub of_states-requires : goal.of_states-requires
of_states-requires c =
    let k = c.args.ids.now in
    let paths = c.args.states.now.paths in
    let are : AreSources paths (transition_paths k) c.in_ok-sources.sources = rw c.chart-2.ensures at c.in_ok-sources.ensures in
    let within : All (IsWithin (length paths)) c.in_ok-sources.sources = sources-within paths (transition_paths k) c.in_ok-sources.sources are in
    rw (c.slice-2.ensures, c.len.ensures) within

pub returns : goal.returns
returns c =
    let k = c.args.ids.now in
    let paths = c.args.states.now.paths in
    let are : AreSources paths (transition_paths k) c.in_ok-sources.sources = rw c.chart-2.ensures at c.in_ok-sources.ensures in
    let sources : AreSources (state_paths k) (transition_paths k) c.in_ok-sources.sources = rw c.requires.states.paths at are in
    let found : c.in_ok-paths.paths ≡ transition_paths k = search rules in
    let long : length paths ≡ state_count k = ap length c.requires.states.paths in
    let lists : HasOwn c.in_ok-sources.sources (state_count k) c.in_ok-of_states.of_states =
    rw (c.slice-2.ensures, c.len.ensures, long) at c.in_ok-of_states.ensures in
    record {
      paths = found;
      sources = sources;
      targets = c.in_ok-targets.ensures ∙ ap (map (λ (path : Path). named k (words_at Target (element k path)))) (c.slice.ensures ∙ found);
      own_size = lists.size;
      own = own-is k c.in_ok-sources.sources c.in_ok-of_states.of_states sources lists;
    }
