-- What the first message of a port and route does, by the three tests of trying.
-- k is the port and route, w the message, t the turn; `on` is what the messages behind it do.
use Rattle.std.specs.Prelude.{◌≡◌, ◌==◌, Bool, true, false, not, cond, Option, Some, None}
use Rattle.std.proofs.Common.{ap, ◌∙◌}
use Rattle.chorus_entry.specs.declared.answer.Answer.{Answer}
use Rattle.chorus_entry.specs.declared.answer.Answer.TheVariants as A
use Rattle.chorus_world.specs.declared.place.Location.{Location}
use Rattle.chorus_world.specs.Posts.{is_on_site}
use Rattle.chorus_world.specs.Steps.{is_beyond}
use Rattle.place_unsettled.specs.declared.wait.Key.{Key}
use Rattle.place_unsettled.specs.declared.wait.Wait.{Wait}
use Rattle.law_machine.specs.PlaceState.{PlaceState, Turn}
use Rattle.law_machine.specs.Deciding.{decide}
use Rattle.law_machine.specs.Trying.{settles_here, tries_at, verdict_here, tries}

-- the verdict, by what the tests say
abbrev by_tests : Key → Wait → Location → PlaceState → Bool → Bool → Bool → Option Answer
by_tests k w located s beyond on_site here =
    cond beyond (Some A.NoPort)
    (cond (not on_site) (Some (A.Elsewhere located.to located.hop))
    (cond here (Some (decide w.message k.port w.only located.hop s)) None))

abbrev goes : Key → Wait → Location → (Turn → Turn) → Turn → Turn
goes k w located on t = tries k w located on (verdict_here k w located t.place) t

-- the layout has no such site
pub beyond : (k : Key) (w : Wait) (located : Location) (on : Turn → Turn) (t : Turn) →
    is_beyond t.place.layout k.port ≡ true →
    goes k w located on t ≡ on (settles_here k w located.hop A.NoPort t)
beyond k w located on t h =
    ap (λ b. tries k w located on (by_tests k w located t.place b (is_on_site t.place.layout w.only located.to) (located.to == t.place.number)) t) h

-- it is decided here
pub decided : (k : Key) (w : Wait) (located : Location) (on : Turn → Turn) (t : Turn) →
    is_beyond t.place.layout k.port ≡ false → is_on_site t.place.layout w.only located.to ≡ true → (located.to == t.place.number) ≡ true →
    goes k w located on t ≡ on (settles_here k w located.hop (decide w.message k.port w.only located.hop t.place) t)
decided k w located on t h site here =
    ap (λ b. tries k w located on (by_tests k w located t.place b (is_on_site t.place.layout w.only located.to) (located.to == t.place.number)) t) h
    ∙ ap (λ b. tries k w located on (by_tests k w located t.place false b (located.to == t.place.number)) t) site
    ∙ ap (λ b. tries k w located on (by_tests k w located t.place false true b) t) here

-- it is tried at another place
pub tried : (k : Key) (w : Wait) (located : Location) (on : Turn → Turn) (t : Turn) →
    is_beyond t.place.layout k.port ≡ false → is_on_site t.place.layout w.only located.to ≡ true → (located.to == t.place.number) ≡ false →
    goes k w located on t ≡ tries_at k w located t
tried k w located on t h site here =
    ap (λ b. tries k w located on (by_tests k w located t.place b (is_on_site t.place.layout w.only located.to) (located.to == t.place.number)) t) h
    ∙ ap (λ b. tries k w located on (by_tests k w located t.place false b (located.to == t.place.number)) t) site
    ∙ ap (λ b. tries k w located on (by_tests k w located t.place false true b) t) here
