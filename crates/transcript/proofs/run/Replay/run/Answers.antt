use Rattle.transcript.proofs.Ending.{replayed, not_replayed}
use Rattle.transcript.proofs.run.Replay.run.Goals.{in-Ok, in-Err}
use Rattle.transcript.proofs.run.Replay.run.Goals as goal

pub returns : goal.returns
returns c =
    elim c.match-read.branch [
      | in-Ok w ↦
          let lines = rw (w.self-is, w.last-is) at c.push_reserved.ensures.items in
          let h = w.in-Ok.ensures.taken in
          replayed _ _ _ _ _ _ _ _ _ w.in-Ok.ensures.fault h.facts h.actions h.initial h.goal w.follow-last.ensures.ends lines
      | in-Err w ↦
          let lines = rw (w.self-is, w.last-is) at c.push_reserved.ensures.items in
          not_replayed _ _ _ _ w.in-Err.fault w.in-Err.ensures.fault c.clear.ensures.items lines
    ]
