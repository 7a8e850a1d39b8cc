-- What a group is after a port joined or left, and when one does not leave.
use Rattle.std.proofs.Common.{◌≡◌, ◌<◌, ◌≤◌, nat_le, Bool, true, false, cond, Option, refl, [], ◌∷◌, length, Some, None, arith, length-append}
use Rattle.std.proofs.lemmas.Bool.Decides.{nat_tests}
use Rattle.std.proofs.lemmas.List.Edits.{length-remove}
use Rattle.chorus_ui.specs.declared.ui.Ui.{Ui}
use Rattle.chorus_ui.specs.declared.limits.TheConstants.{MEMBERS_LIMIT}
use Rattle.chorus_groups.specs.declared.fault.LeaveFault.TheVariants.{NotThere}
use Rattle.chorus_entry.specs.Members.{index_of, is_member, without}
use Rattle.chorus_groups.specs.Groups.{Group, IsGroup, joined, left, turned_behind}
use Rattle.chorus_groups.specs.declared.fault.JoinFault.{JoinFault}
use Rattle.chorus_groups.specs.declared.fault.JoinFault.TheVariants as joins
use Rattle.chorus_groups.specs.Faults.{refuses_join, refuses_leave}
use Rattle.chorus_groups.proofs.PortLemmas.{wrapped-position, is_member-index, distinct-append, distinct-remove}

pub joined_is_group : (q : Ui) (x : Group) → IsGroup x → is_member q x.members ≡ false → length x.members < MEMBERS_LIMIT → IsGroup (joined q x)
joined_is_group q x h absent room = record {
  few = omega (arith, length-append x.members (q ∷ []));
  distinct = distinct-append x.members q h.distinct absent;
  position = omega (arith, h.position, length-append x.members (q ∷ []));
}

pub left_is_group : (q : Ui) (x : Group) → IsGroup x → index_of q x.members < length x.members → IsGroup (left q x)
left_is_group q x h there = record {
  few = omega (arith, h.few, length-remove x.members (index_of q x.members) there);
  distinct = distinct-remove x.members (index_of q x.members) h.distinct;
  position = wrapped-position (length (without q x.members)) _;
}

pub turned_is_group : (q : Ui) (x : Group) → IsGroup x → IsGroup (turned_behind q x)
turned_is_group q x h = record { few = h.few; distinct = h.distinct; position = wrapped-position (length x.members) _ }

pub leaves : (q : Ui) (x : Group) → index_of q x.members < length x.members → refuses_leave q x ≡ None
leaves q x there = grind (arith, nat_tests, is_member-index q x.members)

pub not_there : (q : Ui) (x : Group) → length x.members ≤ index_of q x.members → refuses_leave q x ≡ Some NotThere
not_there q x h = grind (arith, nat_tests, is_member-index q x.members)

abbrev join_case : Bool → Bool → Option JoinFault
join_case b c = cond b (Some joins.There) (cond c (Some joins.MembersFull) None)

-- a port that joins is no member, and there is room
pub joins_absent : (q : Ui) (x : Group) → refuses_join q x ≡ None → is_member q x.members ≡ false
joins_absent q x h = by (is_member q x.members) (nat_le MEMBERS_LIMIT (length x.members)) h
  where
    by : (b c : Bool) → join_case b c ≡ None → b ≡ false
    by true c e = absurd (cc)
    by false c e = refl

pub joins_in_room : (q : Ui) (x : Group) → refuses_join q x ≡ None → length x.members < MEMBERS_LIMIT
joins_in_room q x h = let e = by (is_member q x.members) (nat_le MEMBERS_LIMIT (length x.members)) h in grind (arith, e)
  where
    by : (b c : Bool) → join_case b c ≡ None → c ≡ false
    by true c e = absurd (cc)
    by false true e = absurd (cc)
    by false false e = refl
