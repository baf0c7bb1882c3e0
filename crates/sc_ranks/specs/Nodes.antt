-- For proofs: how entries are kept, in a tree whose nodes know how many entries are below them.
use Rattle.std.specs.Prelude.{Box, List, [], Option, None, Some}
use Rattle.std.specs.declared.alloc.Global.{Global}
use Rattle.sc_ranks.specs.declared.entry.Entry.{Entry}
use Rattle.sc_ranks.specs.declared.node.Node.{Node}

-- the entries below a link
abbrev pub linked : Option (Box Node Global) → List Entry
linked None = []
linked (Some node) = node.value
