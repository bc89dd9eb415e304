-- An event is accepted only where no cause applies.
use Rattle.std.proofs.Common.{◌≡◌, ℕ, Bool, true, false, Option, None, refl}
use Rattle.std.specs.Option.{option_or}
use Rattle.pe_events.specs.declared.event.Event.{Event}
use Rattle.pe_rules.specs.History.{RepliedHistory, some_if}
use Rattle.pe_rules.specs.Causes.{cause_of}
use Rattle.pe_laws.specs.CausesLaws.{IsFaultless}

-- nothing is the first of two only where it is both
none-first : {A : Type 0} (b : Bool) (x : A) (later : Option A) → option_or (some_if b x) later ≡ None → (b ≡ false) × (later ≡ None)
none-first true x later h = cc
none-first false x later h = (refl, h)

pub faultless : (T : RepliedHistory) (now : ℕ) (e : Event) → cause_of T now e ≡ None → IsFaultless T now e
unfolding cause_of
faultless T now e h =
    let few = none-first _ _ _ h in
    let in_time = none-first _ _ _ few.1 in
    let known = none-first _ _ _ in_time.1 in
    let unsettled = none-first _ _ _ known.1 in
    let opened = none-first _ _ _ unsettled.1 in
    let shown = none-first _ _ _ opened.1 in
    let url = none-first _ _ _ shown.1 in
    let feature = none-first _ _ _ url.1 in
    let call = none-first _ _ _ feature.1 in
    let capability = none-first _ _ _ call.1 in
    let same_page = none-first _ _ _ capability.1 in
    let pages = none-first _ _ _ same_page.1 in
    let depth = none-first _ _ _ pages.1 in
    let frames = none-first _ _ _ depth.1 in
    let statuses = none-first _ _ _ frames.1 in
    let pending = none-first _ _ _ statuses.1 in
    let store = none-first _ _ _ pending.1 in
    record {
      few = few.0;
      in_time = in_time.0;
      known = known.0;
      unsettled = unsettled.0;
      opened = opened.0;
      shown = shown.0;
      url = url.0;
      feature = feature.0;
      call = call.0;
      capability = capability.0;
      same_page = same_page.0;
      pages = pages.0;
      depth = depth.0;
      frames = frames.0;
      statuses = statuses.0;
      pending = pending.0;
      store = store.0;
    }
