use Rattle.std.specs.Prelude.{ℕ, []}
use Rattle.chorus_ui.specs.declared.ui.Ui.{Ui}
use Rattle.chorus_entry.specs.declared.record.PortRecord.{PortRecord}

-- the record of a port that was just made
abbrev pub new_record : Ui → Ui → ℕ → PortRecord
new_record ui actor capacity =
    record {
      ui = ui;
      actor = actor;
      capacity = capacity;
      hop = 0;
      first = 0;
      pending = [];
      clients = [];
    }
