-- `tealsettle_mcs_write` meets its contract.
use Rattle.hosttexts.proofs.BackLaws.{host_back}
use Rattle.hosttexts.proofs.writing.tealsettle_mcs_write.Goals as goal

pub returns-clause-back : goal.returns-clause-back
returns-clause-back c = host_back _ _ c.write.result c.into.result c.into.ensures c.write.ensures.back
