use Rattle.explore_report.proofs.Reporting.{decides-same}
use Rattle.explore_report.proofs.lines.is_same.Goals as goal

pub returns : goal.returns
returns c = decides-same c.are_equal.result c.args.one.now c.args.other.now c.are_equal.ensures.yes c.are_equal.ensures.no
