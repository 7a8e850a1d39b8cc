-- What is told when the sites are closed is the outcome of the moves.
-- c is a scenario, s a stage, told are the acts that answered, ps are places, js journals with the oldest entry first.
use Rattle.std.proofs.Common.{ℕ, ◌≡◌, Bool, false, List, [], ◌++◌, sym, ◌∙◌, ap, ap₂, subst}
use Rattle.std.specs.Global.{Vec}
use Rattle.std.specs.List.{flat_map}
use Rattle.std.proofs.lemmas.List.Concat.{flat_map-append}
use Rattle.law_explore.specs.Races.{Order, Told}
use Rattle.chorus_entry.specs.declared.entry.Entry.{Entry}
use Rattle.chorus_merge.specs.Steps.{journals_of}
use Rattle.chorus_net.specs.declared.closed.Closed.{Closed}
use Rattle.chorus_net.specs.Closing.{IsLeft}
use Rattle.law_machine.specs.PlaceState.{PlaceState}
use Rattle.law_network.specs.declared.placed.Placed.{Placed}
use Rattle.law_network.specs.Left.{journals, placed, placed_in}
use Rattle.law_explore.specs.Outcome.{Stuck, answer_facts, left_facts, message_facts, port_facts, outcome_with, posts_in, stuck_facts}
use Rattle.law_explore.specs.declared.moves.Move.{Move}
use Rattle.law_replay.specs.Shown.{race_of}
use Rattle.chorus_scene.specs.Scene.{Scene}
use Rattle.chorus_net.specs.Sites.{net}
use Rattle.chorus_explore.specs.declared.race_sites.Progress.{Progress}
use Rattle.chorus_explore.specs.declared.race_sites.Stage.{Stage}
use Rattle.explore_report.specs.Facts.{fact_line, outcome_lines}
use Rattle.explore_report.specs.Outcomes.{message_lines, made_lines}
use Rattle.chorus_explore.specs.Stages.{AreProgress, IsReached, comes, moves_of, position, posted_lines}
use Rattle.chorus_explore.proofs.Staging.{answers-are, posts-are}
use Rattle.explore_report.proofs.Telling.{flat-flat, journals_at, port-lines, told-lines}

lines-are : (scripts left : List (List Order)) (told : List (List Told)) (ps : List PlaceState) → outcome_lines (outcome_with scripts left told ps)
    ≡ flat_map fact_line (answer_facts 1 told) ++ flat_map (message_lines (journals_at ps)) (posts_in told) ++ flat_map (made_lines (placed_in ps)) (journals_at ps)
    ++ outcome_lines (stuck_facts scripts left)
lines-are scripts left told ps =
    flat_map-append fact_line (answer_facts 1 told ++ message_facts told ps ++ port_facts ps) (stuck_facts scripts left)
    ∙ ap (λ xs. xs ++ outcome_lines (stuck_facts scripts left))
    (flat_map-append fact_line (answer_facts 1 told ++ message_facts told ps) (port_facts ps)
    ∙ ap₂ (λ xs ys. xs ++ ys)
    (flat_map-append fact_line (answer_facts 1 told) (message_facts told ps) ∙ ap (λ ys. flat_map fact_line (answer_facts 1 told) ++ ys) (told-lines ps (posts_in told)))
    (port-lines ps))

-- the lines of the scripts that are stuck
abbrev pub stuck_lines : Scene → List Move → List ℕ
stuck_lines c ms = outcome_lines (left_facts Stuck 1 (race_of c).scripts (position c ms).left)

pub outcome-told : (c : Scene) (s : Stage) (js : List (List Entry)) (ps : List Placed) → IsReached c s → s.asks ≡ false → js ≡ journals (net s.sites) → ps ≡ placed (net s.sites)
    → flat_map (λ (p : Progress). p.answers.items) s.scripts.items ++ flat_map (posted_lines js) s.scripts.items ++ flat_map (made_lines ps) js ++ stuck_lines c (moves_of s) ≡ comes c (moves_of s)
outcome-told c s js ps h asks journals-are ports-are =
    let p = position c (moves_of s) in
    let ks = journals_at p.net.places in
    let answers = answers-are 1 c.scripts p.left p.told s.scripts.items (subst (λ (by : Bool). AreProgress by 1 c.scripts p.left p.told s.scripts.items) asks h.at.scripts) in
    let posts = posts-are s.asks 1 c.scripts p.left p.told s.scripts.items h.at.scripts in
    ap₂ (λ js qs. flat_map (λ (p : Progress). p.answers.items) s.scripts.items ++ flat_map (posted_lines js) s.scripts.items ++ flat_map (made_lines qs) js ++ stuck_lines c (moves_of s))
    (journals-are ∙ ap journals h.at.net) (ports-are ∙ ap placed h.at.net)
    ∙ ap₂ (λ xs ys. xs ++ ys ++ flat_map (made_lines (placed_in p.net.places)) ks ++ stuck_lines c (moves_of s))
    (sym answers)
    (sym (flat-flat (message_lines ks) (λ (p : Progress). p.posts.items) s.scripts.items) ∙ ap (flat_map (message_lines ks)) (sym posts))
    ∙ sym (lines-are (race_of c).scripts p.left p.told p.net.places)

-- the text, as it is put together from what was closed
pub outcome-text : (c : Scene) (s : Stage) (closed : Closed) (none one two three text empty stuck last : List ℕ) (a b : List Progress) (j k : List (Vec Entry)) (ps : List Placed) → IsReached c s → s.asks ≡ false → IsLeft (net s.sites) closed
    → none ≡ [] → one ≡ none ++ flat_map (λ (p : Progress). p.answers.items) a → two ≡ one ++ flat_map (posted_lines (journals_of j)) b
    → three ≡ two ++ flat_map (made_lines ps) (journals_of k) → empty ≡ [] → stuck ≡ empty ++ stuck_lines c (moves_of s) → last ≡ stuck → text ≡ three ++ last
    → a ≡ s.scripts.items → b ≡ s.scripts.items → j ≡ closed.journals.items → k ≡ closed.journals.items → ps ≡ closed.ports.items
    → text ≡ comes c (moves_of s)
outcome-text c s closed none one two three text empty stuck last a b j k ps h asks left nothing first second third no-line stuck-is last-is all is-a is-b is-j is-k is-ps =
    let scripts = s.scripts.items in
    let js = journals_of closed.journals.items in
    let behind = stuck_lines c (moves_of s) in
    let made = flat_map (made_lines ps) (journals_of k) in
    let posts = flat_map (posted_lines (journals_of j)) b in
    all
    ∙ ap₂ (λ xs ys. xs ++ ys)
    (third ∙ ap (λ xs. xs ++ made) (second ∙ ap (λ xs. xs ++ posts) (first ∙ ap (λ xs. xs ++ flat_map (λ (p : Progress). p.answers.items) a) nothing)))
    (last-is ∙ stuck-is ∙ ap (λ xs. xs ++ behind) no-line)
    ∙ ap (λ (xs : List Progress). flat_map (λ (p : Progress). p.answers.items) xs ++ posts ++ made ++ behind) is-a
    ∙ ap (λ (xs : List Progress). flat_map (λ (p : Progress). p.answers.items) scripts ++ flat_map (posted_lines (journals_of j)) xs ++ made ++ behind) is-b
    ∙ ap (λ (xs : List (Vec Entry)). flat_map (λ (p : Progress). p.answers.items) scripts ++ flat_map (posted_lines (journals_of xs)) scripts ++ made ++ behind) is-j
    ∙ ap₂ (λ (qs : List Placed) (xs : List (Vec Entry)). flat_map (λ (p : Progress). p.answers.items) scripts ++ flat_map (posted_lines js) scripts ++ flat_map (made_lines qs) (journals_of xs) ++ behind) is-ps is-k
    ∙ outcome-told c s js closed.ports.items h asks left.journals left.ports
