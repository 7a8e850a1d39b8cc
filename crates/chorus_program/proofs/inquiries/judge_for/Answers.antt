use Rattle.chorus_program.proofs.Concluding.{causes-judged}
use Rattle.chorus_program.proofs.inquiries.judge_for.Goals as goal

pub returns-clause-judges : goal.returns-clause-judges
returns-clause-judges g c =
    record {
      given = c.judge.result;
      verdict = c.judged.ensures.verdict;
      ends = record { is = c.judged.ensures.finished; reads = c.judge.ensures.reads; judges = c.judge.ensures.judges };
    }

pub returns-clause-causes : goal.returns-clause-causes
returns-clause-causes g c =
    causes-judged _ _ _ _ _ _ _ _ _ c.judged.result.finished c.judge.result c.judged.ensures.finished c.judge.ensures.read_fault c.judge.ensures.steady c.judge.ensures.reliable
    c.judge.ensures.write_fault c.judge.ensures.reads c.judge.ensures.unwritten
