-- 2 * depth falls from list to form and from form to list, and in the list's loop the bytes that are left fall. The loop's invariant (`Goes`): members can
-- be read on from here exactly where they can be read from the start.
use Rattle.std.proofs.Common.{length, ◌+◌, ◌*◌}
use Rattle.forms.specs.TextLaws as W
use Rattle.forms.proofs.text.+form_list.Given as goal

abbrev pub decreases-form : goal.decreases-form
decreases-form l = 2 * l.depth

abbrev pub decreases-list : goal.decreases-list
decreases-list l = 2 * l.depth + 1

abbrev pub invariant-list-loop-behind : goal.invariant-list-loop-behind
invariant-list-loop-behind l = W.Goes l.depth l.inside l.rest l.gap

abbrev pub decreases-list-loop-behind : goal.decreases-list-loop-behind
decreases-list-loop-behind l = length l.rest
