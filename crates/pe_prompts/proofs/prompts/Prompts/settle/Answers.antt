use Rattle.std.proofs.Common.{ap, sym, ◌∙◌, nat_eq, option_map}
use Rattle.std.specs.Map.{remove_entry}
use Rattle.pe_prompts.specs.Lists.{listed}
use Rattle.pe_prompts.specs.Queues.{given_of, pending}
use Rattle.pe_prompts.specs.Kept.{queue_of, settled}
use Rattle.pe_prompts.proofs.Kept.{AreKept-settled, removed_everywhere}
use Rattle.pe_prompts.proofs.prompts.Prompts.settle.Goals as goal

pub invariant_of-self : goal.invariant_of-self
invariant_of-self c = AreKept-settled c.self.inside.given (listed c.self.inside.documents) (queue_of c.self.inside.pages) c.self.invariant c.settle_in.new.given (listed c.self.inside.documents) (λ d x i. i)
    (queue_of c.remove_in.new.pages) c.args.page c.args.number (ap (λ q. given_of q c.args.number) c.self.view_is ∙ c.requires) c.settle_in.ensures.others c.remove_in.ensures.queues c.remove_in.ensures.gone

pub returns : goal.returns
returns c =
    let here = ap (λ q. given_of q c.args.number) c.self.view_is ∙ c.requires in
    record {
      settled = ap (option_map (λ g. g.settled)) (c.settle_in.ensures.here ∙ ap (option_map settled) here);
      page = ap (option_map (λ g. g.page)) (c.settle_in.ensures.here ∙ ap (option_map settled) here) ∙ sym (ap (option_map (λ g. g.page)) c.requires);
      others = λ k f. c.settle_in.ensures.others k f ∙ ap (λ q. given_of q k) c.self.view_is;
      pending = λ p. removed_everywhere c.self.inside.given (listed c.self.inside.documents) (queue_of c.self.inside.pages) c.self.invariant (queue_of c.remove_in.new.pages) c.args.page c.args.number here c.remove_in.ensures.queues p
          ∙ ap (λ q. remove_entry (nat_eq c.args.number) (pending q p)) c.self.view_is;
    }
