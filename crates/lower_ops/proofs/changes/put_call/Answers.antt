use Rattle.lower_ops.proofs.changes.put_call.Goals as goal

pub returns-in_ok-put_called-in-Function : goal.returns-in_ok-put_called-in-Function
returns-in_ok-put_called-in-Function c = rw c.in-Function.is c.in_ok-put_called-in-Function.ensures

pub returns-in_ok-put_called-in-GetByte : goal.returns-in_ok-put_called-in-GetByte
returns-in_ok-put_called-in-GetByte c = rw c.in-GetByte.is c.in_ok-put_called-in-GetByte.ensures

pub returns-in_ok-put_called-in-PutByte : goal.returns-in_ok-put_called-in-PutByte
returns-in_ok-put_called-in-PutByte c = rw c.in-PutByte.is c.in_ok-put_called-in-PutByte.ensures

pub returns-in_ok-put_end-in-Missing : goal.returns-in_ok-put_end-in-Missing
returns-in_ok-put_end-in-Missing c = rw c.in-Missing.is c.in_ok-put_end-in-Missing.ensures
