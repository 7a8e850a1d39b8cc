-- The conditions that go with a command.
use Rattle.std.specs.Prelude.{ℕ, Bool, true, false, ◌&&◌, nat_le, length}
use Rattle.chorus_entry.specs.declared.dest.Dest.{Dest}
use Rattle.chorus_entry.specs.declared.dest.Dest.TheVariants.{Port, All, One, OneAt}
use Rattle.chorus_entry.specs.declared.command.Command.{Command}
use Rattle.chorus_entry.specs.declared.command.Command.TheVariants.{Make, Send, Call, Retry, Cancel, Reply, Take, Move, GroupMake, Join, Leave, Delete}
use Rattle.chorus_ui.specs.declared.limits.TheConstants.{SITES_LIMIT, PENDING_LIMIT, BODY_LIMIT}
use Rattle.chorus_ui.specs.NameKind.{is_actor, is_port, is_group}
use Rattle.chorus_entry.specs.Kinds.{has_kinds_in_dest}

-- a capacity is from 1 to 64
abbrev pub is_capacity : ℕ → Bool
is_capacity n = nat_le 1 n && nat_le n PENDING_LIMIT

-- the site that is demanded, where one is, is from 1 to 16
abbrev pub demands_a_site : Dest → Bool
demands_a_site (Port q) = true
demands_a_site (All g) = true
demands_a_site (One g) = true
demands_a_site (OneAt g s) = nat_le 1 s && nat_le s SITES_LIMIT

-- a command is given under these conditions: each name in it is of the kind that it stands for, its capacity is one,
-- and its destination demands no site but one from 1 to 16
abbrev pub meets_conditions : Command → Bool
meets_conditions (Make a n) = is_actor a && is_capacity n
meets_conditions (Send d b) = has_kinds_in_dest d && demands_a_site d
meets_conditions (Call q back b) = is_port q && is_port back
meets_conditions Retry = true
meets_conditions Cancel = true
meets_conditions (Reply b) = true
meets_conditions (Take q) = is_port q
meets_conditions (Move q a) = is_port q && is_actor a
meets_conditions (GroupMake s) = true
meets_conditions (Join g q) = is_group g && is_port q
meets_conditions (Leave g q) = is_group g && is_port q
meets_conditions (Delete q) = is_port q

-- its body is within the limit, which a command as data needs to say
abbrev pub has_body_in_limit : Command → Bool
has_body_in_limit (Make a n) = true
has_body_in_limit (Send d b) = nat_le (length b) BODY_LIMIT
has_body_in_limit (Call q back b) = nat_le (length b) BODY_LIMIT
has_body_in_limit Retry = true
has_body_in_limit Cancel = true
has_body_in_limit (Reply b) = nat_le (length b) BODY_LIMIT
has_body_in_limit (Take q) = true
has_body_in_limit (Move q a) = true
has_body_in_limit (GroupMake s) = true
has_body_in_limit (Join g q) = true
has_body_in_limit (Leave g q) = true
has_body_in_limit (Delete q) = true

-- it is one of the commands that post a message
abbrev pub is_post : Command → Bool
is_post (Make a n) = false
is_post (Send d b) = true
is_post (Call q back b) = true
is_post Retry = true
is_post Cancel = false
is_post (Reply b) = true
is_post (Take q) = false
is_post (Move q a) = false
is_post (GroupMake s) = false
is_post (Join g q) = false
is_post (Leave g q) = false
is_post (Delete q) = false
