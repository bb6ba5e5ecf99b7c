-- What the rules read of what is stored.
use Rattle.std.specs.Prelude.{length}
use Rattle.building_rules.specs.Definitions.{State}
use Rattle.builder.specs.declared.named.Stored.{Stored}
use Rattle.builder.specs.Holding.{state}

-- the anonymous operation's location, whether its collision was listed, and the names that are taken
abbrev pub state_now : Stored → State
state_now s =
    state s.anonymous s.multiple_anonymous s.operations.definitions.now (length s.operations.definitions.now) s.fragments.definitions.now (length s.fragments.definitions.now)
