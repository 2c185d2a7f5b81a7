-- The fields of a board in memory.
use Rattle.vt_board.specs.inside.BoardOfRun.{BoardOfRun}
use Rattle.vt_board.specs.declared.board.Board.TheInside.{Inside}

-- the board of a run that these fields are
abbrev pub kept_board : Inside → BoardOfRun
kept_board b =
    record {
      end = b.end;
      board = record {
        announced = b.announced;
        is_open = b.is_open;
        has_cut = b.has_cut;
        has_reported = b.has_reported;
        sent = b.sent;
        got = b.got;
        least = b.least;
        rounds = b.rounds;
      };
    }
