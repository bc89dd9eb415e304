-- What a theorem opens to compute the output text of a literal script. Written by tools/rows.
use Rattle.std.specs.Prelude.{⊤}
use Rattle.std.specs.Str.{is_utf8}
use Rattle.std.specs.Fmt.{digits}
use Rattle.url.proofs.OnLiterals.{url_on_literals}
use Rattle.pe_lines.specs.Lines.{lines, ended_lines, lines_or_too_long, ended_lines_or_too_long}
use Rattle.pe_lines.specs.Rests.{filler}
use Rattle.pe_lines.specs.Words.{has_bad_byte, is_blank_line, is_comment, words_from, words_of}
use Rattle.pe_fields.specs.Dictionary.{last_of}
use Rattle.pe_fields.specs.Reading.{each, key_at, number_at, text_at, binary_at, bare_at, given_at, param_at, params_at, item_at, next_item_at, items_at, inner_at, listed_at, value_at, member_at, next_member_at, members_of, dictionary}
use Rattle.pe_origin.specs.Places.{tuple_of, place_of, place_at}
use Rattle.pe_origin.specs.Schemes.{scheme_named}
use Rattle.pe_features.specs.Calls.{gate_of, call_named}
use Rattle.pe_features.specs.Capabilities.{capability_named}
use Rattle.pe_features.specs.Features.{feature_named}
use Rattle.pe_allowlist.specs.Allowlists.{matches}
use Rattle.pe_allowlist.specs.AsciiWords.{pieces_at, ascii_words}
use Rattle.pe_allowlist.specs.ContainerPolicy.{with_word, list_by_pieces, container_policy}
use Rattle.pe_allowlist.specs.DeclaredLists.{pairs_of}
use Rattle.pe_allowlist.specs.Expressions.{tuple_at, separator_at, without_star, expression_at}
use Rattle.pe_allowlist.specs.Lists.{lists_of}
use Rattle.pe_header.specs.DeclaredPolicy.{with_bare, list_of_value, declared_policy}
use Rattle.pe_policy.specs.Denials.{first_failing, denial}
use Rattle.pe_policy.specs.InheritedPolicy.{child_value, inherited_below, inherited_value, value_for}
use Rattle.pe_policy.specs.Links.{pair_test, own_test}
use Rattle.pe_policy.specs.PolicyValue.{failing_at, row_of}
use Rattle.pe_store.specs.Pairs.{is_same_pair}
use Rattle.pe_events.specs.Texts.{answer_words, answer_text, change_text}
use Rattle.pe_script.specs.Numerals.{number_of, positive, time_of, span_of, named_by, object}
use Rattle.pe_script.specs.OptionSteps.{options_from}
use Rattle.pe_script.specs.Reading.{timed_of, reading_of}
use Rattle.pe_script.specs.Verbs.{options, headers, event_of}
use Rattle.pe_rules.specs.Activation.{reaches, activates, activated_count, consumes, last_activation, is_consumed_since, has_sticky, has_transient, stamp_of}
use Rattle.pe_rules.specs.Attributes.{attribute, attributes_of}
use Rattle.pe_rules.specs.Causes.{names_unknown, names_settled, names_closed, names_not_shown, has_bad_url, has_bad_feature, has_bad_call, has_bad_capability, names_other_page, live_pages, live_frames, page_statuses, state_found, prompt_to_join, exceeds_pages, exceeds_depth, exceeds_frames, exceeds_statuses, exceeds_pending, entries, exceeds_store, cause_of}
use Rattle.pe_rules.specs.Changes.{numbers_above, change_at, changes_at, changes_before, change_between, changes_after}
use Rattle.pe_rules.specs.Current.{frames_above, is_current, document_in, is_live}
use Rattle.pe_rules.specs.Delegation.{message, is_message_settled, waiting_messages, last_delivery, is_spent_since, has_delegated}
use Rattle.pe_rules.specs.Denials.{declared_policy_in, container_in, container_policy_in, chain_document, chain_documents, why_denied, is_allowed}
use Rattle.pe_rules.specs.Embedders.{chain, top_document, page, page_of_frame, depth}
use Rattle.pe_rules.specs.History.{clock, newest_answer, all_answers, answers_newest_first, step_at, steps_since}
use Rattle.pe_rules.specs.HistoryActivation.{consumes_history, second_stamp_of, has_history_activation}
use Rattle.pe_rules.specs.InheritedPolicy.{inherited, is_enabled_for, is_enabled}
use Rattle.pe_rules.specs.Making.{making_by, making, fold_embedders, frame_of}
use Rattle.pe_rules.specs.Muting.{is_foreign, muted_event, muted}
use Rattle.pe_rules.specs.Numbering.{is_frame, is_status, is_prompt, is_message, frames_made, documents_made, last_document, parent_frame}
use Rattle.pe_rules.specs.Origins.{place_or_none, sandboxes_origin, sandbox_flag, origin_of, declared_origin, is_secure}
use Rattle.pe_rules.specs.PermissionState.{permission_state}
use Rattle.pe_rules.specs.Prompts.{requests, is_settled, waiting, is_pending, pending, shown_prompt, pending_prompt_of}
use Rattle.pe_rules.specs.Replies.{post_reason, answer_of_delivery, new_origin, answer_of, verdict_replied, replied, reply_in, accepts_in, reply, accepts, is_regular}
use Rattle.pe_rules.specs.Settings.{key_for, pair_for, prompt_pair, prompt_page, setting_named, holds, stored_by, counts, after_unnamed, after_step, standing_of, last_setting, dismissals, embargo_for, setting_by, stored_state, has_entry}
use Rattle.pe_rules.specs.Statuses.{is_live_status, live_statuses}
use Rattle.pe_rules.specs.Verdicts.{permission_reason, is_met_by_delegated, reason_denied, verdict_of}
use Rattle.pe_output.specs.OutputText.{event_text, history_after, line_text, history_after_line, is_refused, text_from, refuses_from, output_text, ended_text, refuses_some}

-- every word that the definitions are made of
unfoldable pub output_on_literals : ⊤
unfolding url_on_literals is_utf8 digits lines ended_lines lines_or_too_long ended_lines_or_too_long filler has_bad_byte is_blank_line is_comment words_from words_of last_of each key_at number_at text_at binary_at bare_at given_at param_at params_at item_at next_item_at items_at inner_at listed_at value_at member_at next_member_at members_of dictionary tuple_of place_of place_at scheme_named gate_of call_named capability_named feature_named matches pieces_at ascii_words with_word list_by_pieces container_policy pairs_of tuple_at separator_at without_star expression_at lists_of with_bare list_of_value declared_policy first_failing denial child_value inherited_below inherited_value value_for pair_test own_test failing_at row_of is_same_pair answer_words answer_text change_text number_of positive time_of span_of named_by object options_from timed_of reading_of options headers event_of reaches activates activated_count consumes last_activation is_consumed_since has_sticky has_transient stamp_of attribute attributes_of names_unknown names_settled names_closed names_not_shown has_bad_url has_bad_feature has_bad_call has_bad_capability names_other_page live_pages live_frames page_statuses state_found prompt_to_join exceeds_pages exceeds_depth exceeds_frames exceeds_statuses exceeds_pending entries exceeds_store cause_of numbers_above change_at changes_at changes_before change_between changes_after frames_above is_current document_in is_live message is_message_settled waiting_messages last_delivery is_spent_since has_delegated declared_policy_in container_in container_policy_in chain_document chain_documents why_denied is_allowed chain top_document page page_of_frame depth clock newest_answer all_answers answers_newest_first step_at steps_since consumes_history second_stamp_of has_history_activation inherited is_enabled_for is_enabled making_by making fold_embedders frame_of is_foreign muted_event muted is_frame is_status is_prompt is_message frames_made documents_made last_document parent_frame place_or_none sandboxes_origin sandbox_flag origin_of declared_origin is_secure permission_state requests is_settled waiting is_pending pending shown_prompt pending_prompt_of post_reason answer_of_delivery new_origin answer_of verdict_replied replied reply_in accepts_in reply accepts is_regular key_for pair_for prompt_pair prompt_page setting_named holds stored_by counts after_unnamed after_step standing_of last_setting dismissals embargo_for setting_by stored_state has_entry is_live_status live_statuses permission_reason is_met_by_delegated reason_denied verdict_of event_text history_after line_text history_after_line is_refused text_from refuses_from output_text ended_text refuses_some
output_on_literals = tt
