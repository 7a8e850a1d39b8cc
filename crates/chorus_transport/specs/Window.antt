-- How wide a window may be.
use Rattle.std.specs.Prelude.{ℕ, ◌≤◌}
use Rattle.chorus_transport.specs.declared.window_limit.TheConstants.{WIDEST}

-- from one chunk to the widest
abbrev pub IsWindow : ℕ → Type 0
IsWindow window = (1 ≤ window) × (window ≤ WIDEST)
