use Rattle.std.proofs.Common.{length-take, arith}
use Rattle.gl_system.proofs.udp_link.UdpLinkLink.recv.Goals as goal

pub receive-received-requires : goal.receive-received-requires
receive-received-requires c = omega (arith, length-take 65535 c.args.into.now)
