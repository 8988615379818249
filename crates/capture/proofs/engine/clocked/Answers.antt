use Rattle.capture.proofs.Quiet.{quiet_clock, quiet_left, moves_idle, moves_in, moves_out, moves_busy}
use Rattle.capture.proofs.engine.clocked.Goals as goal

pub bit_in-requires : goal.bit_in-requires
bit_in-requires c = (quiet_left c.args.line c.args.code _ c.in-Receive.is c.requires, quiet_clock c.args.line c.args.code c.requires)

pub returns-in-Idle : goal.returns-in-Idle
returns-in-Idle c = moves_idle _ _ c.args.line c.args.code (quiet_clock c.args.line c.args.code c.requires) _ c.in-Idle.is c.released.ensures

pub returns-in-Receive : goal.returns-in-Receive
returns-in-Receive c = moves_in _ _ c.args.line c.args.code (quiet_clock c.args.line c.args.code c.requires) _ _ c.in-Receive.is (quiet_left c.args.line c.args.code _ c.in-Receive.is c.requires) c.bit_in.ensures

pub returns-in-Send : goal.returns-in-Send
returns-in-Send c = moves_out _ _ c.args.line c.args.code (quiet_clock c.args.line c.args.code c.requires) _ _ c.in-Send.is c.bit_out.ensures

pub returns-in-Busy : goal.returns-in-Busy
returns-in-Busy c = moves_busy _ _ c.args.line c.args.code (quiet_clock c.args.line c.args.code c.requires) _ _ c.in-Busy.is c.released-in-Busy.ensures
