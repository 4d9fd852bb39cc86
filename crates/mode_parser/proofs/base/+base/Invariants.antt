use Rattle.std.proofs.Common.{◌+◌, ◌*◌}
use Rattle.mode_parser.proofs.base.+base.Given as goal

abbrev pub decreases-arrays : goal.decreases-arrays
decreases-arrays l = 60 * l.inner + 21 + 3 * l.count

abbrev pub decreases-array : goal.decreases-array
decreases-array l = 60 * l.inner + 23 + 3 * l.count

abbrev pub decreases-elements : goal.decreases-elements
decreases-elements l = 60 * l.inner + 22 + 3 * l.count

abbrev pub decreases-plain_base : goal.decreases-plain_base
decreases-plain_base l = 60 * l.inner + 20

abbrev pub decreases-structure : goal.decreases-structure
decreases-structure l = 60 * l.inner + 19

abbrev pub decreases-fields : goal.decreases-fields
decreases-fields l = 60 * l.room + 10

abbrev pub decreases-some_fields : goal.decreases-some_fields
decreases-some_fields l = 60 * l.inner + 55

abbrev pub decreases-some_fields-read_list : goal.decreases-some_fields-read_list
decreases-some_fields-read_list l = 60 * l.inner + 54

abbrev pub decreases-one_field : goal.decreases-one_field
decreases-one_field l = 60 * l.inner + 52
