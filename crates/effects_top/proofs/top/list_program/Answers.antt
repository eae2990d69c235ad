use Rattle.effects_top.proofs.Refusing.{file_refused}
use Rattle.effects_top.proofs.top.list_program.Goals as goal

pub returns-in-Err-clause-compiles : goal.returns-in-Err-clause-compiles
returns-in-Err-clause-compiles g c =
    file_refused _ c.in-Err.refusal _ _ _ _ _ _ _ _ _ _ _ c.refused.ensures c.in-Err.ensures.others c.in-Err.ensures.opened c.in-Err.ensures.file c.in-Err.ensures.limit

pub returns-in-Ok-listing-clause-listed : goal.returns-in-Ok-listing-clause-listed
returns-in-Ok-listing-clause-listed g c = λ w written. (
  c.in-Ok.image,
  record {
    wrote = c.write_all-written.result;
    status = c.listed.ensures.status;
    image = c.listed.ensures.image;
    report = c.listed.ensures.report;
    written = c.listed.ensures.written;
    output = rw (c.deref.ensures.value, c.in-Ok-listing.ensures.is) at c.write_all-written.ensures;
    told = c.listed.ensures.told;
  },
)
