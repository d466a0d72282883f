-- The worked cases, the small morning, the wrong rules and the sharp bounds, by computation. Assumes nothing.
use Rattle.std.proofs.Common.{List, [], ◌∷◌, refl, lit≤}
use Rattle.tick_machine.specs.declared.call.Call.{Call}
use Rattle.tick_machine.specs.declared.call.Call.TheVariants.{Arrive, MoveTo}
use Rattle.tick_machine.specs.Lists.{none, more}
use Rattle.tick_machine.specs.Slots.{holder}
use Rattle.tick_machine.specs.Machine.{Config}
use Rattle.tick_machine.specs.Law.{Drafted}
use Rattle.tick_machine.specs.Cases.{EveryCaseHolds, ASmallMorningStands}
use Rattle.tick_machine.specs.WrongRules.{WrongRulesDiffer}
use Rattle.tick_machine.specs.Sharp.{here, later, InSomeHistory, LateByAllButOne, BehindByAllButOne, LeftAtItsLatest, LatestTickAsLateAsCanBe, BoundsAreAttained}

pub every_case_holds : EveryCaseHolds
unfolding holder
every_case_holds =
    more refl (more refl (more refl (more refl (more refl (more refl (more refl (more refl (more refl (more refl (more refl
    (more refl (more (refl, refl) (more (refl, refl) (more refl (more refl (more refl (more refl none)))))))))))))))))

pub a_small_morning_stands : ASmallMorningStands
unfolding holder
a_small_morning_stands = record { making = refl; adding_one = refl; opening = refl; said = refl; printed = refl }

pub wrong_rules_differ : WrongRulesDiffer
unfolding holder
wrong_rules_differ = record {
  from_next_alone = refl;
  from_cursor_and_next = refl;
  from_line = refl;
  from_round_server = refl;
  by_first_slot = refl;
  by_stamp = refl;
}

-- weights 1 and 1, packets of at most 3 bytes
abbrev even_link : Config
even_link = record { link = 1; largest = 3; capacity = 4; weights = 1 ∷ 1 ∷ [] }

even_link_is_real : Drafted even_link
even_link_is_real = record {
  link = 1;
  largest = 3;
  capacity = 4;
  weight = 1;
  addings = 1 ∷ [];
  first = record { link = 1; largest = 3; capacity = 4; weights = 1 ∷ [] };
  making = refl;
  is = refl;
}

-- session 0 has a packet of 3 bytes on the line when session 1 has one of 1 byte accepted, whose slot comes next
abbrev just_missed : List Call
just_missed = MoveTo 4 ∷ Arrive 1 1 2 ∷ MoveTo 1 ∷ Arrive 0 3 1 ∷ []

late_by_all_but_one : InSomeHistory LateByAllButOne
unfolding holder
late_by_all_but_one = record { config = even_link; drafted = even_link_is_real; calls = just_missed; holds = (lit≤ tt, here (later (later (here (refl, refl))))) }

left_at_its_latest : InSomeHistory LeftAtItsLatest
unfolding holder
left_at_its_latest = record { config = even_link; drafted = even_link_is_real; calls = just_missed; holds = here refl }

-- weights 2, 1 and 1, packets of at most 3 bytes
abbrev three_link : Config
three_link = record { link = 2; largest = 3; capacity = 4; weights = 2 ∷ 1 ∷ 1 ∷ [] }

three_link_is_real : Drafted three_link
three_link_is_real = record {
  link = 2;
  largest = 3;
  capacity = 4;
  weight = 2;
  addings = 1 ∷ 1 ∷ [];
  first = record { link = 2; largest = 3; capacity = 4; weights = 2 ∷ [] };
  making = refl;
  is = refl;
}

-- the packets of sessions 1 and 2 have lower stamps than session 0's, whose first two bytes are served while those are sent
behind_by_all_but_one : InSomeHistory BehindByAllButOne
unfolding holder
behind_by_all_but_one = record {
  config = three_link;
  drafted = three_link_is_real;
  calls = MoveTo 2 ∷ Arrive 2 1 3 ∷ Arrive 1 1 2 ∷ Arrive 0 3 1 ∷ [];
  holds = (lit≤ tt, (0, refl));
}

-- session 0, one of whose two slots of this round is served and the other owed, gets a slot of the next round
latest_tick_as_late_as_can_be : InSomeHistory LatestTickAsLateAsCanBe
unfolding holder
latest_tick_as_late_as_can_be = record {
  config = three_link;
  drafted = three_link_is_real;
  calls = Arrive 0 1 2 ∷ MoveTo 1 ∷ Arrive 0 2 1 ∷ [];
  holds = here
      {x = record { packet = record { number = 1; session = 0; size = 1; tag = 2; stamp = 4; latest = 7 }; at = 1; owed = 2 }}
      {xs = record { packet = record { number = 0; session = 0; size = 2; tag = 1; stamp = 1; latest = 4 }; at = 0; owed = 2 } ∷ []}
      refl;
}

pub bounds_are_attained : BoundsAreAttained
bounds_are_attained = record {
  prompt = late_by_all_but_one;
  level = behind_by_all_but_one;
  timely = left_at_its_latest;
  bounded = latest_tick_as_late_as_can_be;
}
