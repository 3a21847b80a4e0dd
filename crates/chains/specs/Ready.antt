-- What a command finds past numbers 1 to 3: images that were judged, and arguments within their limits.
use Rattle.std.specs.Prelude.{◌≡◌, Bool, true, not, ◌&&◌, List, ℕ, ◌<◌}
use Rattle.model.specs.declared.Arguments.{Arguments}
use Rattle.model.specs.Commands.{Ranged}
use Rattle.model.specs.Answers.{table}
use Rattle.layouts.specs.Layouts.{grant_bytes, deleted}
use Rattle.delegation.specs.Loans.{word_names, word_from, loans_kept}
use Rattle.delegation.specs.Images.{Images}
use Rattle.delegation.specs.ChainUnit.{chain_in_order, chain_facts}
use Rattle.loans.specs.Words.{Ordered}

-- both images are in order, and every argument is within its limit
pub record Ready (s : Images) (a : Arguments) : Type 0 where
  pub ordered : chain_in_order s ≡ true
  pub ranged : Ranged a

-- the same, where the table of answers has no number against it
pub record Accepted (s : Images) (a : Arguments) : Type 0 where
  pub ready : Ready s a
  pub free : table (chain_facts s a) a ≡ 0

-- the images without item i: no grant, no loan and no live bit of it
abbrev pub without_item : Images → ℕ → Images
without_item s i = record { grants = deleted grant_bytes s.grants i; loans = loans_kept (λ w. not (word_names i w)) s.loans }

-- where a person's grants on an item and right end: the loans are in order, and the numbers are within their limits
pub record Ending (t : List ℕ) (p o r : ℕ) : Type 0 where
  pub loans : Ordered t
  pub person : p < 64
  pub item : o < 64
  pub right : r < 8

-- a loans image without the loans that p made on o, right r, where `last` says that p's last grant there ended
abbrev pub without_loans : Bool → ℕ → ℕ → ℕ → List ℕ → List ℕ
without_loans last p o r t = loans_kept (λ w. not (last && word_from p o r w)) t
