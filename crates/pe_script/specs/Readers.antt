-- What reads the words behind each verb.
-- The script is this project's own format.
-- The verbs are those of the code, the readers those of the table of verbs.
use Rattle.std.specs.Prelude.{List, Option}
use Rattle.pe_lines.specs.Words.{Word}
use Rattle.pe_events.specs.declared.event.Event.{Event}
use Rattle.pe_events.specs.declared.event.Event.TheVariants as event
use Rattle.pe_script.specs.declared.names.Verb.{Verb}
use Rattle.pe_script.specs.declared.names.Verb.TheVariants as verb
use Rattle.pe_script.specs.Verbs.{read_open, read_embed, read_nav, read_attr, read_on_frame, read_with_name, read_input, read_drop, read_answer, read_set, read_post, read_deliver, read_tick}

-- the reader of a verb
abbrev pub reader_of : Verb → List Word → Option Event
reader_of verb.Open = read_open
reader_of verb.Embed = read_embed
reader_of verb.Nav = read_nav
reader_of verb.Attr = read_attr
reader_of verb.Close = read_on_frame event.Close
reader_of verb.Input = read_input
reader_of verb.State = read_on_frame event.Ask
reader_of verb.History = read_on_frame event.History
reader_of verb.Policy = read_with_name event.PolicyOf
reader_of verb.Features = read_on_frame event.Features
reader_of verb.Use = read_with_name event.UseCall
reader_of verb.Query = read_with_name event.Query
reader_of verb.Drop = read_drop
reader_of verb.Request = read_with_name event.Request
reader_of verb.Answer = read_answer
reader_of verb.Set = read_set
reader_of verb.Post = read_post
reader_of verb.Deliver = read_deliver
reader_of verb.Tick = read_tick
