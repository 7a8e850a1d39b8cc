use Rattle.chorus_frame.proofs.Fronts.{fronts}
use Rattle.chorus_frame.proofs.PacketFormats.{packet-again, whole-again, trails}
use Rattle.chorus_frame.proofs.laws.packets_are_read_back.Goals as goal

pub returns-clause-field_by_field : goal.returns-clause-field_by_field
returns-clause-field_by_field c = packet-again

pub returns-clause-whole : goal.returns-clause-whole
returns-clause-whole c = whole-again

pub returns-clause-trailing : goal.returns-clause-trailing
returns-clause-trailing c = trails

pub returns-clause-short : goal.returns-clause-short
returns-clause-short c = fronts
