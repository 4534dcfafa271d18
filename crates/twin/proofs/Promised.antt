-- The promises over every life, together. Assumes nothing.
use Rattle.twin.proofs.Grants.{grants_sourced}
use Rattle.twin.proofs.Settling.{settled_answers, lives_alike}
use Rattle.twin.proofs.Staying.{loaded_stays}
use Rattle.twin.specs.Promises.{Promises}

pub promises : Promises
promises = record { grants = grants_sourced; settled = settled_answers; alike = lives_alike; stays = loaded_stays }
