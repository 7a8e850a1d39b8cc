-- What a name is the name of: an actor, a port or a group.
use Rattle.std.specs.Prelude.{Bool}
use Rattle.chorus_ui.specs.Kind.{same_kind}
use Rattle.chorus_ui.specs.Name.{Name}
use Rattle.chorus_ui.specs.declared.kind.Kind.TheVariants.{Actor, Port, Group}

abbrev pub is_actor : Name → Bool
is_actor u = same_kind u.kind Actor

abbrev pub is_port : Name → Bool
is_port u = same_kind u.kind Port

abbrev pub is_group : Name → Bool
is_group u = same_kind u.kind Group
