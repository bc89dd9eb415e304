-- What an embedding looks up.
-- This project's own.
use Rattle.std.specs.Prelude.{◌≡◌, ℕ, ◌+◌, ◌≤◌, nat_le, List, [], ◌∷◌, length, Option, Some, IsSome, option_map}
use Rattle.pe_base.specs.declared.limits.TheConstants.{EVENT_LIMIT, DEPTH_LIMIT, FRAME_LIMIT}
use Rattle.pe_frames.specs.Forest.{entry_of}
use Rattle.pe_events.specs.declared.cause.Cause.{Cause}
use Rattle.pe_events.specs.declared.cause.Cause.TheVariants as cause
use Rattle.pe_rules.specs.Making.{embedded_url}
use Rattle.pe_rules.specs.Origins.{place_or_none}
use Rattle.pe_engine.specs.declared.verbs.open.Embedding.{Embedding}
use Rattle.pe_engine.specs.Causes.{first_cause}
use Rattle.pe_engine.specs.Objects.{handle_at}
use Rattle.pe_engine.specs.StandsFor.{EngineValue}

-- the limit that a frame below one of this depth, in a page of so many frames, would pass
abbrev pub limit_cause : ℕ → ℕ → Option Cause
limit_cause depth frames = first_cause ((cause.LimitDepth, nat_le DEPTH_LIMIT depth) ∷ (cause.LimitFrames, nat_le FRAME_LIMIT frames) ∷ [])

-- the number of the new frame, the handle of its parent, which is live, and the places of `src` and of the document
pub record IsEmbedding (e : EngineValue) (parent : ℕ) (src place : Option (List ℕ)) (x : Embedding) : Type 0 where
  pub number : x.number ≡ length e.made + 1
  pub few : x.number ≤ EVENT_LIMIT
  pub handle : handle_at e.made parent ≡ Some x.at
  pub found : IsSome (entry_of e.frames.entries x.at)
  pub src_is : x.src ≡ option_map place_or_none src
  pub place_is : x.place ≡ place_or_none (embedded_url place src)
