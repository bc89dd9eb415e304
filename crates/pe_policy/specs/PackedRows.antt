-- What the bytes of a row in a policy stand for.
use Rattle.std.specs.Prelude.{ℕ, ◌+◌, ◌/◌, ◌%◌, ◌==◌, Option, Some, None, option_map, if◌then◌else◌}
use Rattle.pe_base.specs.declared.denial.LinkRule.{LinkRule}
use Rattle.pe_base.specs.declared.denial.Denial.{Denial}
use Rattle.pe_policy.specs.declared.row.Links.{Links}

-- the links whose bits are these, the lowest first
abbrev pub links_of_bits : ℕ → Links
links_of_bits bits =
    record {
      embedder_header = bits % 2 == 1;
      allow = bits / 2 % 2 == 1;
      by_default = bits / 4 % 2 == 1;
      own_header = bits / 8 % 2 == 1;
    }

-- the bits of these links
abbrev pub bits_of : Links → ℕ
bits_of links =
    (if links.embedder_header then 1 else 0)
    + (if links.allow then 2 else 0)
    + (if links.by_default then 4 else 0)
    + (if links.own_header then 8 else 0)

-- the denial of this rule, where there is one, at the document
abbrev pub denial_in : Option LinkRule → ℕ → Option Denial
denial_in rule document = option_map (λ (found : LinkRule). record { rule = found; at = document }) rule

-- the rule that a row keeps of a denial
abbrev pub rule_of : Option Denial → Option LinkRule
rule_of denial = option_map (λ (found : Denial). found.rule) denial

-- the document that a row keeps of a denial; 1, which it never reads, where there is none
abbrev pub document_of : Option Denial → ℕ
document_of None = 1
document_of (Some found) = found.at
