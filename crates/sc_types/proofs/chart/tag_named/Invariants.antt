use Rattle.std.proofs.Common.{◌≡◌, find, drop}
use Rattle.std.specs.Str.{bytes_eq}
use Rattle.sc_types.specs.Elements.{tag_text}
use Rattle.sc_types.proofs.chart.tag_named.Given as goal

abbrev pub invariant-loop-tag : goal.invariant-loop-tag
invariant-loop-tag l = find (λ t. bytes_eq (tag_text t) l.text) l.tags ≡ find (λ t. bytes_eq (tag_text t) l.text) (drop l.tag-index l.tags)
