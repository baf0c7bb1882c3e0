-- The lemmas that the functions name.
use Rattle.sc_expr.proofs.ClimbLemmas.{loose_refused, between_there}
use Rattle.sc_expr.proofs.DepthLemmas.{depth-Bool, depth-Int, depth-Text, depth-Datum, depth-Field, depth-Active, depth-Not, depth-Neg, depth-Two, depth-Item, depth-Len, depth-AsText, depth-List}
use Rattle.sc_expr.proofs.LevelLemmas.{inside_none, inside_more, prefix_stops, all_prefixed-none, prefix_step, prefix_there, prefix_made, prefix_too_deep, index_stops, index_refused, index_unclosed, index_too_deep, index_step, mark_there, in_front-none, deepest-push, list_refused, list_unended, list_made, list_too_deep, list_step}

pub ruleset depths = (depth-Bool, depth-Int, depth-Text, depth-Datum, depth-Field, depth-Active, depth-Not, depth-Neg, depth-Two, depth-Item, depth-Len, depth-AsText, depth-List)

pub ruleset operators = (loose_refused, between_there)

pub ruleset prefixes = (prefix_stops, all_prefixed-none, prefix_step, prefix_there, prefix_made, prefix_too_deep)

pub ruleset places = (index_stops, index_refused, index_unclosed, index_too_deep, index_step, mark_there)

pub ruleset brackets = (inside_none, inside_more)

pub ruleset lists = (depth-List, in_front-none, deepest-push, list_refused, list_unended, list_made, list_too_deep, list_step)
