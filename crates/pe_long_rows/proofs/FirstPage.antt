-- A page that the first event opens, and what later lines need of it.
use Rattle.std.proofs.Common.{◌≡◌, ◌≢◌, ℕ, suc, ◌≤◌, true, false, List, [], ◌∷◌, ◌++◌, length, map, codes, Option, Some, None, option_to_list, refl, ◌∙◌, ap, arith}
use Rattle.pe_lines.specs.Lines.{lines_or_too_long}
use Rattle.pe_events.specs.declared.event.Event.{Event}
use Rattle.pe_events.specs.declared.event.Event.TheVariants as event
use Rattle.pe_events.specs.Timed.{Timed}
use Rattle.pe_rules.specs.History.{StepAnswer, Step, RepliedHistory, all_answers, clock}
use Rattle.pe_rules.specs.Numbering.{is_frame, last_document}
use Rattle.pe_rules.specs.Making.{frame_of}
use Rattle.pe_rules.specs.Embedders.{chain, top_document, page, page_of_frame, depth}
use Rattle.pe_rules.specs.Current.{is_current, document_in, is_live}
use Rattle.pe_rules.specs.Origins.{sandbox_flag}
use Rattle.pe_rules.specs.Statuses.{Status, status_by, live_statuses}
use Rattle.pe_rules.specs.Changes.{numbers_above, changes_before, changes_after}
use Rattle.pe_rules.specs.Replies.{replied}
use Rattle.pe_script.specs.Reading.{Reading, Says, reading_of}
use Rattle.pe_output.specs.OutputText.{reading_or_too_long, text_from, output_text}
use Rattle.pe_laws.specs.Effects.{effects}
use Rattle.pe_laws.specs.HistoryLaws.{HistoryLaws}
use Rattle.pe_rows.proofs.OnLiterals.{output_on_literals}
use Rattle.pe_long_rows.proofs.Repeated.{blocks, IsTaken, text-taken, map-blocks}

-- the first line opens a page of a.example
abbrev pub opening : Timed
opening = record { time = 0; event = event.OpenPage (codes "https://a.example/") None }

-- an event at time 0, of which this was told
abbrev pub step : Event → StepAnswer → Step
step e item = record { time = 0; event = e; item = item }

-- frame 1 is a live top frame with the document 1, and nothing happened after time 0
pub record IsFirstPage (T : RepliedHistory) : Type 0 where
  pub begun : 1 ≤ length T
  pub clock_is : clock T ≡ 0
  pub made : is_frame T 1 ≡ true
  pub document : last_document T 1 ≡ Some 1
  pub current : is_current T 1 ≡ true
  pub chain_is : chain T 1 ≡ 1 ∷ []
  pub frame : frame_of T 1 ≡ 1
  pub flag : sandbox_flag T 1 ≡ false

-- the page after the first line
pub opened : IsFirstPage (replied 5000 (opening ∷ []))
unfolding output_on_literals
opened = record { begun = omega arith; clock_is = refl; made = refl; document = refl; current = refl; chain_is = refl; frame = refl; flag = refl }

-- an event that ends no document leaves the page
pub kept : (laws : HistoryLaws) (e : Event) (item : StepAnswer) (T : RepliedHistory) → (effects e item).ends_documents ≡ false → IsFirstPage T → IsFirstPage (step e item ∷ T)
kept laws e item T quiet w =
    let other : 1 ≢ suc (length T) = omega (arith, w.begun) in
    record {
      begun = omega arith;
      clock_is = laws.steps.clock_step (step e item) T;
      made = laws.numbering.is_frame_older (step e item) T 1 other ∙ w.made;
      document = laws.effects.older_last_document_stays (step e item) T 1 quiet other ∙ w.document;
      current = laws.effects.older_current_stays (step e item) T 1 quiet w.begun ∙ w.current;
      chain_is = laws.embedders.chain_older (step e item) T 1 other ∙ w.chain_is;
      frame = laws.making.frame_of_older (step e item) T 1 other ∙ w.frame;
      flag = laws.origins.sandbox_flag_older (step e item) T 1 other ∙ w.flag;
    }

pub document-of : (T : RepliedHistory) → IsFirstPage T → document_in T 1 ≡ Some 1
unfolding document_in
document-of T w = rw (w.document, w.current) refl

pub live : (T : RepliedHistory) → IsFirstPage T → is_live T 1 ≡ true
unfolding is_live
live T w = rw (document-of T w) refl

pub page-of : (T : RepliedHistory) → IsFirstPage T → page T 1 ≡ 1
unfolding page top_document
page-of T w = rw w.chain_is w.frame

pub page-of-frame : (T : RepliedHistory) → IsFirstPage T → page_of_frame T 1 ≡ Some 1
unfolding page_of_frame
page-of-frame T w = rw w.document (ap Some (page-of T w))

pub depth-of : (T : RepliedHistory) → IsFirstPage T → depth T 1 ≡ 1
unfolding depth
depth-of T w = rw (w.document, w.chain_is) refl

-- no time passes
pub nothing-before : (T : RepliedHistory) → clock T ≡ 0 → changes_before T 0 ≡ []
unfolding changes_before numbers_above
nothing-before T at = rw at refl

-- the statuses that the steps made
abbrev pub statuses_made : RepliedHistory → List Status
statuses_made T = all_answers (λ s B. option_to_list (status_by s.event B (length (s ∷ B)))) T

-- where no status was made, none changes
pub nothing-after : (T U : RepliedHistory) → statuses_made T ≡ [] → changes_after T U 0 ≡ []
unfolding changes_after live_statuses
nothing-after T U none = rw none refl

-- ---- a script that begins with this line

-- the line, and its text
abbrev pub first_line : List ℕ
first_line = codes "0 open https://a.example/"

abbrev pub first_text : List ℕ
first_text = codes "1 frame f1 doc d1 https://a.example" ++ 10 ∷ []

reads-first : reading_of first_line ≡ Says opening
unfolding output_on_literals
reads-first = refl

begins : IsTaken 5000 opening (λ n. first_text) []
unfolding output_on_literals
begins = record { text_is = refl; after = refl }

-- further lines in blocks
pub script-text : (script text : List ℕ) (n : ℕ) (block last : List (Option (List ℕ))) (said ended : List Reading)
    → lines_or_too_long script ≡ Some first_line ∷ blocks n block last → map reading_or_too_long block ≡ said → map reading_or_too_long last ≡ ended
    → text_from 5000 2 (opening ∷ []) (blocks n said ended) ≡ text → output_text 5000 script ≡ first_text ++ text
unfolding output_text
script-text script text n block last said ended lines reads ends is =
    rw (lines, reads-first, map-blocks reading_or_too_long n block last, reads, ends)
    (text-taken 5000 opening (λ n. first_text) [] (blocks n said ended) begins ∙ ap (λ t. first_text ++ t) is)
