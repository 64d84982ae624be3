-- Two writes in a row.
use Rattle.receipt.proofs.FormCalls.{put_element}
use Rattle.receipt.proofs.form.put_element.Goals as goal

pub returns : goal.returns
returns c =
    put_element c.args.s.now c.args.out.now c.args.at c.requires c.put.ensures.1
    c.base64_encode.ensures.0 c.base64_encode.ensures.1
