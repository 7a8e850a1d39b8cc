-- When a port does not join or leave a group.
use Rattle.std.specs.Prelude.{if◌then◌else◌, nat_le, length, Option, Some, None, Result, Ok, Err}
use Rattle.chorus_ui.specs.declared.ui.Ui.{Ui}
use Rattle.chorus_ui.specs.declared.limits.TheConstants.{MEMBERS_LIMIT}
use Rattle.chorus_groups.specs.declared.fault.JoinFault as join
use Rattle.chorus_groups.specs.declared.fault.JoinFault.TheVariants as join_fault
use Rattle.chorus_groups.specs.declared.fault.LeaveFault as leave
use Rattle.chorus_groups.specs.declared.fault.LeaveFault.TheVariants as leave_fault
use Rattle.chorus_entry.specs.Members.{is_member}
use Rattle.chorus_groups.specs.Groups.{Group, Table, group_of, with_change, joined, left}

-- done, unless there is a fault
abbrev pub unless : {E : Type 0} → Option E → Result (Unit {0}) E
unless None = Ok tt
unless (Some fault) = Err fault

-- changed, unless there is a fault
abbrev pub after : {E X : Type 0} → Option E → (X → X) → X → X
after None f x = f x
after (Some fault) f x = x

-- why the port does not join the group, where it does not
abbrev pub refuses_join : Ui → Group → Option join.JoinFault
refuses_join q x =
    if is_member q x.members then Some join_fault.There
    else if nat_le MEMBERS_LIMIT (length x.members) then Some join_fault.MembersFull
    else None

abbrev pub join_refused : Ui → Option Group → Option join.JoinFault
join_refused q None = Some join_fault.NoGroup
join_refused q (Some x) = refuses_join q x

abbrev pub join_fault_of : Table → Ui → Ui → Option join.JoinFault
join_fault_of t g q = join_refused q (group_of g t.groups)

abbrev pub after_join : Table → Ui → Ui → Table
after_join t g q = after (join_fault_of t g q) (with_change g (joined q)) t

-- why the port does not leave the group, where it does not
abbrev pub refuses_leave : Ui → Group → Option leave.LeaveFault
refuses_leave q x = if is_member q x.members then None else Some leave_fault.NotThere

abbrev pub leave_refused : Ui → Option Group → Option leave.LeaveFault
leave_refused q None = Some leave_fault.NoGroup
leave_refused q (Some x) = refuses_leave q x

abbrev pub leave_fault_of : Table → Ui → Ui → Option leave.LeaveFault
leave_fault_of t g q = leave_refused q (group_of g t.groups)

abbrev pub after_leave : Table → Ui → Ui → Table
after_leave t g q = after (leave_fault_of t g q) (with_change g (left q)) t
