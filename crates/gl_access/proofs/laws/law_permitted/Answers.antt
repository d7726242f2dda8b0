use Rattle.gl_access.specs.Permission.{caller_in}
use Rattle.gl_access.proofs.Permitting.{seen, seen_by, all_seen, list_seen, seen_rise}
use Rattle.gl_access.proofs.laws.law_permitted.Goals as goal

pub returns-clause-ids : goal.returns-clause-ids
returns-clause-ids c = seen

pub returns-clause-seen : goal.returns-clause-seen
returns-clause-seen c = λ settings token ids id h. seen_by settings (caller_in settings token) ids id h

pub returns-clause-administrator : goal.returns-clause-administrator
returns-clause-administrator c = all_seen

pub returns-clause-list : goal.returns-clause-list
returns-clause-list c = list_seen

pub returns-clause-rising : goal.returns-clause-rising
returns-clause-rising c = seen_rise
