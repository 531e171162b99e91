-- How a search is closed.
use Rattle.std.specs.Prelude.{ℕ, List, [], ◌∷◌, ◌++◌, map, Option, AllPairs, IsPermutation}
use Rattle.std.specs.Io.KnownBytes.{Appends}
use Rattle.sopl_io.specs.Transfer.{AppendsPrefix}
use Rattle.box_problem.specs.Box.{Box}
use Rattle.box_problem.specs.BoxProblem.{BoxProblem}
use Rattle.log_rows.specs.declared.rows.Footer.{Footer}
use Rattle.log_rows.specs.Lines.{footer_line, rows_lines, text_of}
use Rattle.log_rows.specs.Made.{Pending, open_row}
use Rattle.log_rows.specs.Ranges.{FooterFits}
use Rattle.sopl_search.specs.declared.frontier.Frontier.{Frontier}
use Rattle.sopl_search.specs.declared.outcome.Outcome.{Outcome}
use Rattle.sopl_search.specs.Logged.{StandsBefore, footer_of}
use Rattle.sopl_search.specs.Outcomes.{EndsBy}
use Rattle.sopl_search.specs.Frontiers.{boxes, opens}

-- the lines with which a log ends behind these rows: those of open nodes, and a claim
abbrev pub rest_text : ℕ → List Pending → Footer → List ℕ
rest_text first nodes footer = text_of (rows_lines first (map open_row nodes) ++ footer_line footer ∷ [])

-- the open nodes of a search, by their parents, of one parent the low side first
pub record AreListed (root : Box) (frontier : Frontier) (nodes : List Pending) : Type 0 where
  pub same : IsPermutation (opens root frontier) nodes
  pub in_order : AllPairs (λ (x y : Pending). StandsBefore x.parent y.parent) nodes

-- a search was closed with an outcome: a sink took all that was kept for it, and the rest of the log
pub record IsClosed (problem : BoxProblem) (old : Frontier) (before now : Option (List ℕ)) (outcome : Outcome) : Type 0 where
  pub nodes : List Pending
  pub listed : AreListed problem.root old nodes
  pub ends : EndsBy problem old.best (boxes (opens problem.root old)) outcome
  pub fits : FooterFits (footer_of outcome)
  pub took : Appends before now (old.gather.kept ++ rest_text old.finished nodes (footer_of outcome))

-- or a prefix of that, for the outcome with which it would have been closed
pub record IsBrokenClose (problem : BoxProblem) (old : Frontier) (before now : Option (List ℕ)) : Type 0 where
  pub nodes : List Pending
  pub outcome : Outcome
  pub listed : AreListed problem.root old nodes
  pub ends : EndsBy problem old.best (boxes (opens problem.root old)) outcome
  pub fits : FooterFits (footer_of outcome)
  pub took : AppendsPrefix before now (old.gather.kept ++ rest_text old.finished nodes (footer_of outcome))
