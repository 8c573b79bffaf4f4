use Rattle.controller_core.proofs.log_maker.totals.+hex_length.Given as goal

abbrev pub decreases-hex_length : goal.decreases-hex_length
decreases-hex_length l = l.number
